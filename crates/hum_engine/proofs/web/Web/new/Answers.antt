use Rattle.std.proofs.Common.{◌∙◌, ◌∷◌, [], length, sym, ap, subst, ⊎_elim, arith, length-append, slice_get}
use Rattle.hum_turns.specs.Links.{fresh}
use Rattle.hum_engine.specs.Links.{IsLink}
use Rattle.hum_engine.proofs.Beginning.{push_cases, begins}
use Rattle.hum_engine.proofs.web.Web.new.Goals as goal

pub loop-preserved : goal.loop-preserved
loop-preserved g c =
    let e = c.in_ok-push.ensures.items in
    let n = ap length e in
    record {
      count = omega (arith, n, c.loop.invariant.count, length-append c.loop.links.items (c.in_ok-new.field-0 ∷ []));
      within = omega (arith, c.loop-test.true);
      each = λ k link at. ⊎_elim
          (λ old. c.loop.invariant.each k link old)
          (λ is. subst (λ l. IsLink c.args.size l fresh) is c.in_ok-new.ensures)
          (push_cases c.loop.links.items c.in_ok-new.field-0 k link (ap (λ l. slice_get l k) (sym e) ∙ at));
    }

pub returns-clause-stands : goal.returns-clause-stands
returns-clause-stands g c s opening begun =
    let i = c.loop.invariant in
    begins opening begun (omega (arith, i.count, i.within, c.loop-test.false, c.len-end.ensures, c.args.nodes.ok.0)) i.each
