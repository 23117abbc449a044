use Rattle.std.proofs.Common.{Ok, refl}
use Rattle.std.proofs.lemmas.Result.{err_from_is_err_and}
use Rattle.hum_plan.specs.Answers.{PlanAnswer}
use Rattle.hum_plan.specs.Tells.{outline_of}
use Rattle.hum_plan.proofs.Steps.{then_fails, tells_as}
use Rattle.hum_plan.proofs.plan.read_stages.Goals as goal

pub returns-in-Err : goal.returns-in-Err
unfolding PlanAnswer
returns-in-Err c = rw (c.of_text.ensures, c.in-Err.ensures.exact) refl

pub returns-in_err-draft : goal.returns-in_err-draft
unfolding PlanAnswer
returns-in_err-draft c =
    let p = err_from_is_err_and c.from_residual.result c.from_residual.ensures.1 in
    rw (p.1, p.2) (then_fails _ _ (PlanAnswer c.args.bytes.now) c.in_err-draft.field-0.0
    (λ answer h. rw c.in-Ok.ensures.exact h) (rw c.in-Ok.ensures.text at c.in_err-draft.ensures))

pub returns : goal.returns
unfolding PlanAnswer
returns c =
    let lines = rw c.in-Ok.ensures.text at c.in_ok-draft.ensures in
    tells_as _ _ (PlanAnswer c.args.bytes.now) c.finish.result
    (λ answer whole. rw c.in-Ok.ensures.exact (Ok (outline_of c.in_ok-draft.draft), lines, whole))
    (rw (c.line_count.ensures, c.in-Ok.ensures.text) at c.finish.ensures)
