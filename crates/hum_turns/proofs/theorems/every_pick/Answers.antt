use Rattle.hum_turns.proofs.Picking.{every_pick}
use Rattle.hum_turns.proofs.theorems.every_pick.Goals as goal

pub returns : goal.returns
returns g c = every_pick
