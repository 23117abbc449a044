use Rattle.std.proofs.Common.{◌≡◌, length}
use Rattle.hum_words.specs.Bundle.{score_of}
use Rattle.hum_words.proofs.bundle.score.Given as goal

abbrev pub invariant-loop-rest : goal.invariant-loop-rest
invariant-loop-rest l = score_of l.name l.fn.bundle ≡ score_of l.name l.rest

abbrev pub decreases-loop-rest : goal.decreases-loop-rest
decreases-loop-rest l = length l.rest
