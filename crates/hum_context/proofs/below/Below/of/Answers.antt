use Rattle.std.proofs.Common.{arith}
use Rattle.std.proofs.lemmas.Grind.{common_steps}
use Rattle.hum_context.proofs.below.Below.of.Goals as goal

pub returns-then-c-len : goal.returns-then-c-len
returns-then-c-len c = grind (arith, common_steps)

pub returns-in-Some : goal.returns-in-Some
returns-in-Some c = grind (arith, common_steps)
