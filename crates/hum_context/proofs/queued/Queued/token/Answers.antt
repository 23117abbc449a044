use Rattle.std.proofs.Common.{arith}
use Rattle.std.proofs.lemmas.Grind.{common_steps}
use Rattle.hum_context.proofs.queued.Queued.token.Goals as goal

pub token-requires : goal.token-requires
token-requires c = grind (arith, common_steps)
