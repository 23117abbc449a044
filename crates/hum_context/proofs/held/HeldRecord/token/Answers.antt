use Rattle.std.proofs.Common.{arith}
use Rattle.std.proofs.lemmas.Grind.{common_steps}
use Rattle.hum_context.proofs.held.HeldRecord.token.Goals as goal

pub returns-in-Nulls-clause-token : goal.returns-in-Nulls-clause-token
returns-in-Nulls-clause-token c = grind (arith, common_steps)
