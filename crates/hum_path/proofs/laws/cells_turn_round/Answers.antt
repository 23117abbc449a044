use Rattle.hum_path.proofs.Turned.{step_turns, columns_turn}
use Rattle.hum_path.proofs.laws.cells_turn_round.Goals as goal

pub returns-clause-steps : goal.returns-clause-steps
returns-clause-steps c = step_turns

pub returns-clause-columns : goal.returns-clause-columns
returns-clause-columns c = columns_turn
