use Rattle.std.specs.VecDeque.{deque_len}
use Rattle.hum_tests.proofs.Puts.{Wanting}
use Rattle.hum_tests.proofs.limits.told.Given as goal

abbrev pub invariant-loop-next : goal.invariant-loop-next
invariant-loop-next g l =
    Wanting (g.S.Stage.stands l.fn.stage) (g.S.Stage.stands l.stage) l.fn.records.items l.rest.items

abbrev pub decreases-loop-next : goal.decreases-loop-next
decreases-loop-next g l = deque_len l.rest
