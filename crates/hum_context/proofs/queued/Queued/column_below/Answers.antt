use Rattle.std.proofs.Common.{sym}
use Rattle.hum_context.proofs.Queues.{stays_below}
use Rattle.hum_context.proofs.queued.Queued.column_below.Goals as goal

pub returns-else-is_interpretation : goal.returns-else-is_interpretation
returns-else-is_interpretation c =
    let kept = c.args.self.now in
    sym (stays_below kept.row kept.below c.args.c (c.is_interpretation.ensures.other c.if-is_interpretation.false))
