use Rattle.hum_pipes.proofs.Joining.{pipes}
use Rattle.hum_pipes.proofs.pipes.pipes_are_pipes.Goals as goal

pub returns : goal.returns
returns c = pipes
