use Rattle.hum_score.specs.declared.records.SpinedKind.TheVariants.{Interpretation}
use Rattle.hum_score.specs.Row.{tokens_of}
use Rattle.hum_cleave.specs.Columns.{together, opening_flags}
use Rattle.hum_stage.proofs.Telling.{told_none, told_to}
use Rattle.hum_cleave.proofs.Fitted.{name_token}
use Rattle.hum_cleave.proofs.columns.open.Goals as goal

pub returns-in_err-opening_marks-clause-decided : goal.returns-in_err-opening_marks-clause-decided
returns-in_err-opening_marks-clause-decided c = told_none c.from_residual.result _ c.from_residual.ensures.1

pub returns-in_err-made-clause-decided : goal.returns-in_err-made-clause-decided
returns-in_err-made-clause-decided c = told_none c.from_residual-in_err-made.result _ c.from_residual-in_err-made.ensures.1

pub returns-in_err-open-clause-decided : goal.returns-in_err-open-clause-decided
returns-in_err-open-clause-decided c = told_none c.from_residual-in_err-open.result _ c.from_residual-in_err-open.ensures.1

pub returns-clause-decided : goal.returns-clause-decided
returns-clause-decided c = told_to c.give.result _ _
    (λ refused given room. given Interpretation
    (together c.args.options.now.new_name (opening_flags c.args.options.now.name (tokens_of c.args.row)) (tokens_of c.args.row)) room
    (rw (c.new_name.ensures.name, c.each.ensures, c.new-marks.ensures, c.in_ok-opening_marks.ensures, c.name.ensures)
    at c.in_ok-made.ensures))
    c.give.ensures

pub put_together-requires-clause-lawful : goal.put_together-requires-clause-lawful
put_together-requires-clause-lawful c = rw c.new_name.ensures.name (name_token _ c.new_name.ensures.lawful)
