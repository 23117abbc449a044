use Rattle.std.proofs.Common.{Ok, refl}
use Rattle.std.proofs.lemmas.Result.{err_from_is_err_and}
use Rattle.hum_plan.specs.Answers.{LinesAnswer}
use Rattle.hum_plan.specs.Tells.{outline_of}
use Rattle.hum_plan.proofs.Steps.{then_fails}
use Rattle.hum_plan.proofs.lines.read_lines.Goals as goal

pub loop-line-preserved : goal.loop-line-preserved
unfolding LinesAnswer
loop-line-preserved c = λ answer goes. c.loop-line.invariant answer
    (rw c.in-Some.ensures.steps (Ok (outline_of c.add_line.new.self), c.in_ok-add_line.ensures, goes))

pub returns-in_err-add_line : goal.returns-in_err-add_line
unfolding LinesAnswer
returns-in_err-add_line c =
    let p = err_from_is_err_and c.from_residual.result c.from_residual.ensures.1 in
    rw (p.1, p.2) (then_fails _ _ _ c.in_err-add_line.field-0.0
    (λ answer h. c.loop-line.invariant answer (rw c.in-Some.ensures.steps h)) c.in_err-add_line.ensures)

pub returns : goal.returns
unfolding LinesAnswer
returns c = c.loop-line.invariant (Ok (outline_of c.loop-line.draft)) (rw c.in_default.ensures.steps.0 refl)
