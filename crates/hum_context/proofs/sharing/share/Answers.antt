use Rattle.std.proofs.Common.{◌∙◌, sym, ap, Some}
use Rattle.hum_context.specs.declared.walk.Walk.{Walk}
use Rattle.hum_context.proofs.Standing.{get_there}
use Rattle.hum_context.proofs.sharing.share.Goals as goal

pub loop-j-preserved : goal.loop-j-preserved
loop-j-preserved c o path first row rows want known h =
    let is = c.index-walks-j.is in
    c.in_ok-share_one.ensures o path first row rows want known
    (h c.loop-j.j c.index-walks-j.result (get_there c.args.walks.now c.loop-j.j
    c.index-walks-j.result c.loop-j-test.true ∙ ap (λ (w : Walk). Some w) (sym is)))
    (c.loop-j.invariant o path first row rows want known h)
