use Rattle.hum_plan.proofs.Agreed.{one_plan}
use Rattle.hum_plan.proofs.laws.texts_are_one_plan.Goals as goal

pub returns : goal.returns
returns c = one_plan
