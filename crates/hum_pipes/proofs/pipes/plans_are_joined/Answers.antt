use Rattle.hum_pipes.proofs.Staging.{joined}
use Rattle.hum_pipes.proofs.pipes.plans_are_joined.Goals as goal

pub returns : goal.returns
returns c = joined
