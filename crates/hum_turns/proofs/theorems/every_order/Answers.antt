use Rattle.hum_turns.proofs.Every.{every_order}
use Rattle.hum_turns.proofs.theorems.every_order.Goals as goal

pub returns : goal.returns
returns g c = every_order
