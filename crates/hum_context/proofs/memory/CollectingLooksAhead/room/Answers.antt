use Rattle.std.proofs.Common.{arith}
use Rattle.std.proofs.lemmas.Iterator.Consumers.{YieldsList-end, YieldsList-from_deque}
use Rattle.hum_context.proofs.Following.{kept_rows, one_more}
use Rattle.hum_context.proofs.memory.CollectingLooksAhead.room.Goals as goal

pub loop-kept-preserved : goal.loop-kept-preserved
loop-kept-preserved c =
    let sum = c.saturating_add-room.ensures in
    one_more c.loop-kept.yielded c.in-Some.kept c.loop-kept.room _ _ c.loop-kept.invariant c.room.ensures
    (omega (arith, sum))

pub returns : goal.returns
returns c look past rows h =
    let t = YieldsList-end (YieldsList-from_deque {s = c.into_iter-kept-iterator.result} c.args.held.now.items cc)
    c.loop-kept.yielded _ c.loop-kept.yielded_by _ _ c.in-None.is c.next.ensures.steps in
    rw (t.0, kept_rows _ _ _ rows h.waits) at c.loop-kept.invariant
