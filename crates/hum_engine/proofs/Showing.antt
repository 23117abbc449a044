-- What sources show where they stay as they were, and where no byte was read.
use Rattle.std.proofs.lemmas.Bool.Decides.{nat_tests}
use Rattle.std.proofs.Common.{◌≡◌, ℕ, List, [], arith}
use Rattle.std.proofs.Common.{slice_get}
use Rattle.hum_text.specs.declared.calls.Source.{Ghosts as Source}
use Rattle.hum_nodes.specs.declared.node.Node.{Node}
use Rattle.hum_nodes.specs.Polls.{HasRead}
use Rattle.hum_nodes.proofs.Followed.{read_none}
use Rattle.hum_engine.specs.Readers.{ShowsSame, remaining_at, ended_at}
use Rattle.hum_engine.specs.Scene.{only}

module _ {S R : Type 0} {reader : Source R} where
  -- a node that is as it was shows what it showed
  pub shows_alike : (old new : List (Node S R)) (i : ℕ) → slice_get new i ≡ slice_get old i
      → ShowsSame reader old new i
  shows_alike = grind (arith, nat_tests)

  -- no byte was read
  pub shows_read : (k : ℕ) {old new : List (Node S R)} (i : ℕ) → ShowsSame reader old new i → only k [] i ≡ []
      → HasRead (ended_at i old) (ended_at i new) (remaining_at reader i old) (remaining_at reader i new) (only k [] i)
  shows_read k {old} i h none = rw (h.ends, h.remains, none) (read_none (ended_at i old) (remaining_at reader i old))
