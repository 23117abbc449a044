use Rattle.hum_turns.proofs.Near.{every_turn_is_near}
use Rattle.hum_turns.proofs.theorems.every_turn_is_near.Goals as goal

pub returns : goal.returns
returns g c = every_turn_is_near
