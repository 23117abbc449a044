use Rattle.std.proofs.Common.{◌≡◌, drop, map}
use Rattle.hum_score.specs.Row.{tokens_of}
use Rattle.hum_score.specs.Sign.{sign_of}
use Rattle.hum_extract.specs.Extract.{chosen_between}
use Rattle.hum_extract.proofs.Placewise.{between_from}
use Rattle.hum_extract.proofs.cutting.chosen_between.Given as goal

abbrev pub invariant-loop-j : goal.invariant-loop-j
invariant-loop-j l =
    between_from l.inside (drop l.j l.marks) (map sign_of (drop l.j (tokens_of l.row))) ≡ chosen_between l.marks (map sign_of (tokens_of l.row))
