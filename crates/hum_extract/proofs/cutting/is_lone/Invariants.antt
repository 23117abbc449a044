use Rattle.std.proofs.Common.{◌≡◌, drop, map}
use Rattle.hum_score.specs.Row.{tokens_of}
use Rattle.hum_score.specs.Sign.{sign_of}
use Rattle.hum_extract.specs.Extract.{is_lone, exchanged_flags}
use Rattle.hum_extract.proofs.Placewise.{lone_after}
use Rattle.hum_extract.proofs.cutting.is_lone.Given as goal

abbrev pub invariant-loop-j : goal.invariant-loop-j
invariant-loop-j l =
    lone_after l.first (drop l.j l.marks) (map sign_of (drop l.j (tokens_of l.row))) ≡ is_lone (exchanged_flags l.marks (map sign_of (tokens_of l.row)))
