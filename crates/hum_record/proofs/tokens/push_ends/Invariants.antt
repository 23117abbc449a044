use Rattle.std.proofs.Common.{length}
use Rattle.hum_record.proofs.Cuts.{SoFar}
use Rattle.hum_record.proofs.Plain.{Marked}
use Rattle.hum_record.proofs.tokens.push_ends.Given as goal

abbrev pub invariant-loop-rest : goal.invariant-loop-rest
invariant-loop-rest l =
    SoFar l.text l.rest l.start l.ends.items l.has_return × Marked l.text l.rest l.has_mark l.is_head

abbrev pub decreases-loop-rest : goal.decreases-loop-rest
decreases-loop-rest l = length l.rest
