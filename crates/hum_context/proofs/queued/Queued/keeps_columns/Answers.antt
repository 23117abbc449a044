use Rattle.std.proofs.Common.{◌≡◌, arith, false}
use Rattle.std.proofs.lemmas.Grind.{common_steps}
use Rattle.hum_context.proofs.Queues.{stays_below}
use Rattle.hum_context.proofs.queued.Queued.keeps_columns.Goals as goal

pub returns : goal.returns
returns c is column =
    let kept = c.args.self.now in
    let other : c.is_interpretation.result ≡ false = grind (arith, common_steps, is) in
    stays_below kept.row kept.below column (c.is_interpretation.ensures.other other)
