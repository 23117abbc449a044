use Rattle.std.proofs.Common.{◌∙◌, sym, ap, subst, refl}
use Rattle.hum_many.specs.Answers.{CaseComes, held_outcome}
use Rattle.hum_many.proofs.Coming.{case-comes}
use Rattle.hum_many.proofs.answers.run_case.Goals as goal

pub returns : goal.returns
returns c = λ plan is_plan scores large all.
    let ran = c.run_named-outcome in
    subst (λ o. CaseComes plan scores c.into_bytes-2.result.items o) (sym c.held_outcome.ensures)
    (subst (λ v. CaseComes plan scores v.items (held_outcome ran.result.0)) (sym c.into_bytes-2.ensures)
    (case-comes plan c.new-text.result.bytes.items ran.result.1.bytes.items c.scores.result.scores.now scores ran.result.1.flushed ran.result.0
    (sym c.if-case.false ∙ large) (c.scores.ensures ∙ all c.if-case.false) c.new-text.ensures (ran.ensures.comes plan is_plan refl)
    (λ h. ap (λ t. t.bytes.items) (ran.ensures.refused h).0)))
