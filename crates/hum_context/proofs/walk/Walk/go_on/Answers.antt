use Rattle.std.proofs.Common.{arith, inr, ◌-◌}
use Rattle.hum_context.proofs.Queues.{stands_out}
use Rattle.hum_context.proofs.walk.Walk.go_on.Goals as goal

pub returns-clause-halts : goal.returns-clause-halts
returns-clause-halts c o path k rows j want knows s =
    let h = c.loop-self.invariant.stands o path k rows j want knows s in
    let size = c.args.held.now.ok.0 in
    let len = c.len.ensures in
    let over = c.loop-self-test.false in
    let behind = c.loop-self.invariant.behind in
    record {
      stands = h;
      halts = inr (inr (stands_out o path c.args.gone k rows j (c.loop-self.self.at - c.args.gone)
          c.args.held.now.items c.loop-self.self knows h (omega (arith, behind))
          (omega (arith, size, len, over))));
    }
