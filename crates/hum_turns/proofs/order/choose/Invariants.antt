use Rattle.std.proofs.Common.{◌≡◌, ◌+◌, drop, get_or, false}
use Rattle.hum_turns.specs.Orders.{first_true}
use Rattle.hum_turns.proofs.order.choose.Given as goal

abbrev pub invariant-loop-k : goal.invariant-loop-k
invariant-loop-k l = record {
  rest : first_true l.ready ≡ l.k + first_true (drop l.k l.ready);
  lacks : get_or l.ready l.pick false ≡ false;
}
