use Rattle.std.proofs.Common.{arith}
use Rattle.hum_context.specs.Memory.{follows_each}
use Rattle.hum_context.proofs.memory.CollectingLooksAhead.lasting.Goals as goal

pub returns-then-len-gt-MOST_RECORDS : goal.returns-then-len-gt-MOST_RECORDS
returns-then-len-gt-MOST_RECORDS c look past rows h =
    let each = follows_each _ _ _ _ _ look past rows h in
    let size = c.args.held.now.ok.0 in
    let len = c.len.ensures in
    let over = c.if-len-gt-MOST_RECORDS.true in
    let few = h.few in
    let counted = h.counted in
    absurd (omega (arith, each, size, len, over, few, counted))
