use Rattle.std.proofs.Common.{arith}
use Rattle.std.proofs.lemmas.Grind.{common_steps}
use Rattle.hum_context.proofs.text.Text.add.Goals as goal

pub invariant_of-self : goal.invariant_of-self
invariant_of-self c = grind (arith, common_steps)

pub invariant_of-self-in-Err : goal.invariant_of-self-in-Err
invariant_of-self-in-Err c = grind (arith, common_steps)

pub returns-in-Ok : goal.returns-in-Ok
returns-in-Ok c = grind (arith, common_steps)

pub returns-in-Err : goal.returns-in-Err
returns-in-Err c = grind (arith, common_steps)
