use Rattle.hum_plan.proofs.Written.{read_as_written}
use Rattle.hum_plan.proofs.laws.texts_are_read_as_written.Goals as goal

pub returns : goal.returns
returns c = read_as_written
