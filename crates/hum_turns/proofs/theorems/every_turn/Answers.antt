use Rattle.hum_turns.proofs.Writing.{every_turn}
use Rattle.hum_turns.proofs.theorems.every_turn.Goals as goal

pub returns : goal.returns
returns g c = every_turn
