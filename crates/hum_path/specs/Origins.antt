-- The opening spine that each spine comes from.
use Rattle.std.specs.Prelude.{◌≡◌, ℕ, ◌<◌, Bool, List, [], ◌∷◌, length, Option, None, Some, slice_get}
use Rattle.hum_score.specs.declared.records.SpinedKind.TheVariants.{Interpretation}
use Rattle.hum_score.specs.Row.{Row, Comment, Spined}
use Rattle.hum_score.specs.declared.spines.Move.{Move}
use Rattle.hum_score.specs.Spines.{width, moves_at, source}
use Rattle.hum_score.specs.Score.{path_after}

-- One step up from a spine that comes by a move: to the cell above, and from the first cell of an
-- added spine to the cell with the `*+`.
abbrev pub up : Option Move → ℕ → ℕ
up None j = j
up (Some move) j = source move

-- After records, the newest first: the opening spine, counted from 0, that one comes to by going up
-- from the spine at place j.
abbrev pub origin : List Row → ℕ → ℕ
origin [] j = j
origin (Comment text ∷ past) j = origin past j
origin (Spined Interpretation tokens ∷ past) j =
    origin past (up (slice_get (moves_at (path_after past) tokens) j) j)
origin (Spined kind tokens ∷ past) j = origin past j

-- These are the origins of the spines, one for each.
pub record AreOrigins (past : List Row) (each : List ℕ) : Type 0 where
  pub width : length each ≡ width (path_after past)
  pub at : (j : ℕ) → j < length each → slice_get each j ≡ Some (origin past j)

-- the origins of the spines, and whether memory ran out
pub record Traced : Type 0 where
  pub each : List ℕ
  pub spent : Bool
