use Rattle.hum_plan.proofs.Written.{refused_in_order}
use Rattle.hum_plan.proofs.Said.{say_all}
use Rattle.hum_plan.proofs.laws.texts_are_refused_in_order.Goals as goal

pub returns-clause-first : goal.returns-clause-first
returns-clause-first c = refused_in_order

pub returns-clause-lines : goal.returns-clause-lines
returns-clause-lines c = say_all
