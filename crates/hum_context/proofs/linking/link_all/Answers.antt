use Rattle.std.proofs.Common.{◌∙◌}
use Rattle.hum_context.proofs.linking.link_all.Goals as goal

pub loop-j-preserved : goal.loop-j-preserved
loop-j-preserved c =
    let inv = c.loop-j.invariant in
    let e = c.in_ok-link_one.ensures in
    record {
      wide = e.wide ∙ inv.wide;
      size = e.size ∙ inv.size;
      valued = λ h. e.valued (inv.valued h);
      knows = λ o path rows h. e.knows o path rows (inv.knows o path rows h);
      stand = λ o path first rows h. e.stand o path first rows (inv.stand o path first rows h);
    }
