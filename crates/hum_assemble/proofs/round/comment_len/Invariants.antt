use Rattle.std.proofs.Common.{◌≡◌, length}
use Rattle.hum_assemble.specs.Merge.{comment_given}
use Rattle.hum_assemble.proofs.round.comment_len.Given as goal

abbrev pub invariant-loop-rest : goal.invariant-loop-rest
invariant-loop-rest l = comment_given l.going l.p l.rest ≡ comment_given l.going l.p l.sources

abbrev pub decreases-loop-rest : goal.decreases-loop-rest
decreases-loop-rest l = length l.rest
