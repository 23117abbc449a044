use Rattle.hum_stage.proofs.Telling.{told_none}
use Rattle.hum_extract.proofs.columns.open.Goals as goal

pub returns-in_err-marks-clause-refused : goal.returns-in_err-marks-clause-refused
returns-in_err-marks-clause-refused c = told_none c.from_residual.result _ c.from_residual.ensures.1

pub returns-in_err-open-in-Some-clause-refused : goal.returns-in_err-open-in-Some-clause-refused
returns-in_err-open-in-Some-clause-refused c =
    told_none c.from_residual-in_err-open-in-Some.result _ c.from_residual-in_err-open-in-Some.ensures.1
