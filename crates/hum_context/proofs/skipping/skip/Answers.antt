use Rattle.std.proofs.Common.{◌≡◌, ◌∙◌, ◌-◌, ◌<◌, ◌≤◌, arith, length, subst, sym}
use Rattle.hum_context.specs.declared.skipping.Place.{Place}
use Rattle.hum_context.specs.Leads.{Leads}
use Rattle.hum_context.proofs.Ways.{skips_first, skips_next}
use Rattle.hum_context.proofs.skipping.skip.Goals as goal

pub loop-here-init : goal.loop-here-init
loop-here-init c =
    let size = c.args.held.now.ok.0 in
    let len = c.len.ensures in
    let within = c.requires.within in
    let e = c.step.ensures in
    let w = e.within c.in-Some.first c.in-Some.is in
    record {
      below = omega (arith, w);
      within = omega (arith, w, size, len, within);
      leads = λ o path rows kept at none knows.
          skips_first o c.args.sought path c.args.held.now.items rows c.args.from.n c.args.from.c
          c.in-Some.first.n c.in-Some.first.c kept c.index.result.now knows within at c.index.ensures none
          (λ q row more known linked quiet.
          e.leads o q row more known linked quiet c.in-Some.first c.in-Some.is);
    }

pub loop-here-preserved : goal.loop-here-preserved
loop-here-preserved c =
    let size = c.args.held.now.ok.0 in
    let len = c.len-in-loop-here.ensures in
    let len-2 = c.len-in-loop-here-2.ensures in
    let test = c.loop-here-test.true in
    let inv = c.loop-here.invariant in
    let below = inv.below in
    let next = c.in-Some-step.next in
    let e = c.step-in-loop-here.ensures in
    let w = e.within next c.in-Some-step.is in
    record {
      below = omega (arith, w, below);
      within = omega (arith, w, size, len, len-2, test);
      leads = λ o path rows kept at none knows.
          skips_next o c.args.sought path c.args.held.now.items rows c.args.from.n c.args.from.c
          c.loop-here.here.n c.loop-here.here.c next.n next.c c.index-kept.result.now knows below
          (omega (arith, size, len, test)) (inv.leads o path rows kept at none knows) c.index-kept.ensures
          (sym c.finds.ensures ∙ c.if-finds.false)
          (λ q row more known linked quiet.
          e.leads o q row more known linked quiet next c.in-Some-step.is);
    }

pub returns-then-finds-clause-within : goal.returns-then-finds-clause-within
returns-then-finds-clause-within c to is =
    let same : ◌≡◌ {A = Place} c.loop-here.here to = cc in
    let inv = c.loop-here.invariant in
    subst (λ (p : Place). (c.args.from.n < p.n) × (p.n ≤ length c.args.held.now.items)) same
    (inv.below, inv.within)

pub returns-then-finds-clause-leads : goal.returns-then-finds-clause-leads
returns-then-finds-clause-leads c o path rows kept at none knows to is =
    let same : ◌≡◌ {A = Place} c.loop-here.here to = cc in
    subst (λ (p : Place). Leads o c.args.sought path rows c.args.from.c (p.n - c.args.from.n) p.c) same
    (c.loop-here.invariant.leads o path rows kept at none knows)

pub returns-in_default-step-clause-within : goal.returns-in_default-step-clause-within
returns-in_default-step-clause-within c to is =
    let same : ◌≡◌ {A = Place} c.loop-here.here to = cc in
    let inv = c.loop-here.invariant in
    subst (λ (p : Place). (c.args.from.n < p.n) × (p.n ≤ length c.args.held.now.items)) same
    (inv.below, inv.within)

pub returns-in_default-step-clause-leads : goal.returns-in_default-step-clause-leads
returns-in_default-step-clause-leads c o path rows kept at none knows to is =
    let same : ◌≡◌ {A = Place} c.loop-here.here to = cc in
    subst (λ (p : Place). Leads o c.args.sought path rows c.args.from.c (p.n - c.args.from.n) p.c) same
    (c.loop-here.invariant.leads o path rows kept at none knows)

pub returns-clause-within : goal.returns-clause-within
returns-clause-within c to is =
    let same : ◌≡◌ {A = Place} c.loop-here.here to = cc in
    let inv = c.loop-here.invariant in
    subst (λ (p : Place). (c.args.from.n < p.n) × (p.n ≤ length c.args.held.now.items)) same
    (inv.below, inv.within)

pub returns-clause-leads : goal.returns-clause-leads
returns-clause-leads c o path rows kept at none knows to is =
    let same : ◌≡◌ {A = Place} c.loop-here.here to = cc in
    subst (λ (p : Place). Leads o c.args.sought path rows c.args.from.c (p.n - c.args.from.n) p.c) same
    (c.loop-here.invariant.leads o path rows kept at none knows)
