use Rattle.std.proofs.lemmas.Grind.{common_steps}
use Rattle.std.proofs.Common.{arith}
use Rattle.hum_cells.proofs.tokens.any_told.Goals as goal

pub returns : goal.returns
returns = grind (arith, common_steps)
