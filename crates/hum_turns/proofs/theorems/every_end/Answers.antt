use Rattle.hum_turns.proofs.Ending.{every_end}
use Rattle.hum_turns.proofs.theorems.every_end.Goals as goal

pub returns : goal.returns
returns g c = every_end
