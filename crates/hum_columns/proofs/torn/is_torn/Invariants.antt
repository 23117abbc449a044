use Rattle.std.proofs.Common.{◌≡◌, drop, map}
use Rattle.hum_score.specs.Row.{tokens_of}
use Rattle.hum_score.specs.Sign.{sign_of}
use Rattle.hum_columns.specs.Chosen.{is_torn}
use Rattle.hum_columns.proofs.TornJoins.{torn_after}
use Rattle.hum_columns.proofs.torn.is_torn.Given as goal

abbrev pub invariant-loop-j : goal.invariant-loop-j
invariant-loop-j l =
    torn_after l.left_joins l.left (drop l.j l.marks) (map sign_of (drop l.j (tokens_of l.row))) ≡ is_torn l.marks (map sign_of (tokens_of l.row))
