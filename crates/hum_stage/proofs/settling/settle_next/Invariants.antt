use Rattle.std.proofs.Common.{◌≤◌}
use Rattle.std.specs.VecDeque.{deque_len}
use Rattle.hum_stage.proofs.Passing.{HasDropped}
use Rattle.hum_stage.proofs.settling.settle_next.Given as goal
use Rattle.hum_stage.specs.declared.TheConstants.{MOST_WAITING}

abbrev pub invariant-loop-memory : goal.invariant-loop-memory
invariant-loop-memory g l = (deque_len l.waiting ≤ deque_len l.initial.waiting)
    × HasDropped MOST_WAITING (g.C.LooksAhead.follows l.initial.memory l.initial.waiting.items)
    (g.C.LooksAhead.follows l.memory l.waiting.items)

abbrev pub decreases-loop-memory : goal.decreases-loop-memory
decreases-loop-memory g l = deque_len l.waiting
