use Rattle.std.proofs.Common.{◌∙◌, ◌+◌, arith, refl, sym, ap}
use Rattle.hum_context.specs.Leads.{is_found, sought_of}
use Rattle.hum_context.proofs.Jumping.{stands_past}
use Rattle.hum_context.proofs.Queues.{stands_pass}
use Rattle.hum_context.proofs.Ways.{skips_here}
use Rattle.hum_context.proofs.walk.Walk.move_on.Goals as goal

pub returns-in-Some-clause-stands : goal.returns-in-Some-clause-stands
returns-in-Some-clause-stands c o path k rows j want knows at short s =
    let here = c.args.here in
    let to = c.in-Some.to in
    let e = c.step.ensures in
    let w = e.within to c.in-Some.is in
    let there = c.requires.at in
    let kept = c.index-next.result.now in
    stands_past o path c.args.gone k rows j here.n here.c (here.n + to.n) to.c c.args.held.now.items
    c.sought.result c.args.self.now _ (c.sought.ensures ∙ ap sought_of want) knows s there
    (omega (arith, there)) (omega (arith, w)) at short
    (skips_here o c.sought.result c.args.held.now.items here.n here.c to.n to.c kept c.requires.within
    c.index-next.ensures (ap (is_found c.sought.result) (sym c.heard.ensures ∙ c.in-Passed.is))
    (λ q row more known linked none. e.leads o q row more known linked none to c.in-Some.is))
    refl refl refl refl short

pub returns-clause-stands : goal.returns-clause-stands
returns-clause-stands c o path k rows j want knows at short s =
    stands_pass o path c.args.gone k rows j c.args.here.n c.args.held.now.items c.index-next.result.now
    c.args.self.now c.pass.new.self knows s c.requires.at c.requires.within c.index-next.ensures
    c.pass.ensures.at
    (λ front row known h. c.pass.ensures.has o path front row j want known at short h)
