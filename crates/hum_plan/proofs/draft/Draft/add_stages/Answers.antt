use Rattle.std.proofs.Common.{refl, Ok}
use Rattle.std.proofs.lemmas.Result.{err_from_is_err_and}
use Rattle.hum_words.specs.Pieces.{items_of}
use Rattle.hum_plan.specs.Tells.{outline_of}
use Rattle.hum_plan.specs.Answers.{StagesAnswer}
use Rattle.hum_plan.proofs.Steps.{then_fails, stages_step}
use Rattle.hum_plan.proofs.draft.Draft.add_stages.Goals as goal

pub returns-in_err-add_stage : goal.returns-in_err-add_stage
returns-in_err-add_stage c =
    let p = err_from_is_err_and c.from_residual.result c.from_residual.ensures.1 in
    let invariant = rw c.in-Some.is at c.loop-rest.invariant in
    rw (p.1, p.2) (then_fails _ _ _ c.in_err-add_stage.field-0.0 (λ answer h. invariant answer
    (stages_step _ _ _ _ _ (items_of c.in-Some.stage.now) _ c.behind_bar-rest.ensures.value refl answer h))
    (rw c.new-place.ensures at c.in_err-add_stage.ensures))

pub loop-rest-preserved : goal.loop-rest-preserved
loop-rest-preserved c = λ answer goes.
    let one = rw c.new-place.ensures at c.in_ok-add_stage.ensures in
    rw c.in-Some.is at c.loop-rest.invariant answer
    (stages_step _ _ _ _ _ (items_of c.in-Some.stage.now) _ c.behind_bar-rest.ensures.value refl answer
    (Ok (outline_of c.add_stage.new.self), one, goes))

pub returns : goal.returns
unfolding StagesAnswer
returns c = c.loop-rest.invariant (Ok (outline_of c.loop-rest.self)) (rw c.in_default.is refl)
