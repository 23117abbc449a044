use Rattle.std.proofs.Common.{◌∙◌, ap, List}
use Rattle.hum_assemble.specs.Source.{Source}
use Rattle.hum_assemble.specs.Standing.{wants_by}
use Rattle.hum_assemble.proofs.Calls.{told_wants, wanted_open}
use Rattle.hum_assemble.proofs.assemble.Assemble.wants.Goals as goal

pub returns-clause-wanted : goal.returns-clause-wanted
returns-clause-wanted c = λ t h.
    let h' = rw (← c.self.view_is) at h in
    c.wants_by.ensures c.self.inside.given ∙ (ap (λ (ss : List Source).
    wants_by (record { sources = ss; given = c.self.inside.given }) c.self.inside.next) c.deref.ensures.value
    ∙ told_wants _ _ _ _ _ _ t c.self.invariant h')

pub returns-clause-awaits : goal.returns-clause-awaits
returns-clause-awaits c = λ t h.
    let h' = rw (← c.self.view_is) at h in
    wanted_open _ _ _ t c.wants_by.result h' (returns-clause-wanted c t h)
