use Rattle.std.proofs.Common.{◌≡◌, ◌∙◌, ◌∷◌, sym, subst}
use Rattle.hum_context.specs.declared.skipping.Place.{Place}
use Rattle.hum_context.specs.Leads.{Leads}
use Rattle.hum_context.proofs.Leading.{leads_row}
use Rattle.hum_context.proofs.queued.Queued.step.Goals as goal

pub returns-in-Some-column_below-clause-leads : goal.returns-in-Some-column_below-clause-leads
returns-in-Some-column_below-clause-leads c o path row rows known linked none to is =
    let same : ◌≡◌ {A = Place} (record { n = 1; c = c.in-Some-column_below.below }) to = cc in
    subst (λ (p : Place). Leads o c.args.sought path (row ∷ rows) c.args.c p.n p.c) same
    (leads_row o c.args.sought path row rows c.args.self.now c.args.c c.in-Some-column_below.below known none
    (sym c.column_below.ensures ∙ c.in-Some-column_below.is))
