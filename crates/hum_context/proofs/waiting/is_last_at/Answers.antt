use Rattle.std.proofs.Common.{arith}
use Rattle.std.proofs.lemmas.Grind.{common_steps}
use Rattle.hum_context.proofs.waiting.is_last_at.Goals as goal

pub returns-then-c-width : goal.returns-then-c-width
returns-then-c-width c = grind (arith, common_steps)
