use Rattle.hum_many.proofs.Talking.{end-fails}
use Rattle.hum_many.proofs.many.answer_to_end.Goals as goal

pub returns-in-Err-clause-failed : goal.returns-in-Err-clause-failed
returns-in-Err-clause-failed g c =
    rw c.end_of.ensures (end-fails g.R.Source c.in-Err.stop c.in-Err.ensures.failed)
