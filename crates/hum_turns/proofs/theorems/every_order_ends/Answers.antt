use Rattle.hum_turns.proofs.Ending.{every_order_ends}
use Rattle.hum_turns.proofs.theorems.every_order_ends.Goals as goal

pub returns : goal.returns
returns g c = every_order_ends
