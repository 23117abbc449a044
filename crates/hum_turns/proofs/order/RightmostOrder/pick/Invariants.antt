use Rattle.std.proofs.Common.{◌≡◌, ◌≤◌, length, take}
use Rattle.hum_turns.specs.Orders.{last_true}
use Rattle.hum_turns.proofs.order.RightmostOrder.pick.Given as goal

abbrev pub invariant-loop-end : goal.invariant-loop-end
invariant-loop-end l = record {
  within : l.end ≤ length l.ready;
  rest : last_true l.ready ≡ last_true (take l.end l.ready);
}

abbrev pub decreases-loop-end : goal.decreases-loop-end
decreases-loop-end l = l.end
