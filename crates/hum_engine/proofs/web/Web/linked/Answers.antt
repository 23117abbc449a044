use Rattle.std.proofs.lemmas.Bool.Decides.{nat_tests}
use Rattle.std.proofs.Common.{arith}
use Rattle.hum_engine.proofs.Feeding.{link_at}
use Rattle.hum_engine.proofs.web.Web.linked.Goals as goal

pub returns-clause-stage : goal.returns-clause-stage
returns-clause-stage g c s h =
    let p = h.stand.links c.args.k _ (link_at h.less h.stand c.index.ensures) in
    (c.len-2.ensures.waiting s.size (s.links c.args.k) p, c.len-2.ensures.within s.size (s.links c.args.k) p)

pub returns-then-k-len-clause-stage : goal.returns-then-k-len-clause-stage
returns-then-k-len-clause-stage = grind (arith, nat_tests)
