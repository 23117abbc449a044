use Rattle.std.proofs.Common.{◌∙◌, ap, List}
use Rattle.hum_stage.specs.Meaning.{readiness_by}
use Rattle.hum_assemble.specs.Source.{Source}
use Rattle.hum_assemble.specs.Standing.{state_by}
use Rattle.hum_assemble.proofs.Calls.{told_ready}
use Rattle.hum_assemble.proofs.assemble.Assemble.readiness.Goals as goal

pub returns : goal.returns
returns c = λ t h.
    let h' = rw (← c.self.view_is) at h in
    c.readiness_by.ensures c.self.inside.stage c.self.inside.given ∙ (ap (λ (ss : List Source).
    readiness_by (state_by c.self.inside.stage (record { sources = ss; given = c.self.inside.given }) c.self.inside.next))
    c.deref.ensures.value
    ∙ told_ready _ _ _ _ _ _ t c.self.invariant h')
