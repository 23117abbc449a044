use Rattle.std.proofs.Common.{◌∙◌, ap, arith, sym}
use Rattle.hum_context.specs.Leads.{is_found}
use Rattle.hum_context.proofs.Kept.{goes_from}
use Rattle.hum_context.proofs.linking.link_ways.Goals as goal

pub link_way-requires-clause-leads : goal.link_way-requires-clause-leads
link_way-requires-clause-leads c o path rows knows =
    let here = c.loop-here.here in
    let to = c.in-Some.to in
    let e = c.skip.ensures in
    let w = e.within to c.in-Some.is in
    goes_from o c.args.sought path c.loop-here.held.items rows here.n here.c to.n to.c knows
    (omega (arith, w))
    (λ q rest behind. e.leads o q rest c.index.result.now c.index.ensures
    (ap (is_found c.args.sought) (sym c.heard.ensures ∙ c.in-Passed.is)) behind to c.in-Some.is)
