use Rattle.std.proofs.Common.{◌∙◌, arith}
use Rattle.hum_context.proofs.Kept.{from_step}
use Rattle.hum_context.proofs.linking.link_way.Goals as goal

pub loop-here-preserved : goal.loop-here-preserved
loop-here-preserved c =
    let inv = c.loop-here.invariant in
    let e = c.in_ok-put_way.ensures in
    let here = c.loop-here.here in
    let next = c.in-Some.next in
    let s = c.step.ensures in
    let w = s.within next c.in-Some.is in
    let test = c.loop-here-test.true in
    let within = c.requires.within in
    let size = inv.size in
    record {
      size = e.size ∙ size;
      valued = λ h. e.valued (inv.valued h);
      knows = λ o path rows h. e.knows o path rows (inv.leads o path rows h) (inv.knows o path rows h);
      leads = λ o path rows h.
          from_step o c.args.sought path c.loop-here.held.items rows here.n here.c c.args.to.n c.args.to.c
          next.n next.c c.index.result.now (inv.knows o path rows h) (omega (arith, test, within, size)) test
          w.1 c.index.ensures
          (λ q row more known linked none. s.leads o q row more known linked none next c.in-Some.is)
          (inv.leads o path rows h);
    }
