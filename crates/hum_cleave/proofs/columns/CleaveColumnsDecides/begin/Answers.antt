use Rattle.hum_cleave.proofs.KeepsScores.{cleave_keeps}
use Rattle.hum_cleave.proofs.columns.CleaveColumnsDecides.begin.Goals as goal

pub returns-clause-keeps : goal.returns-clause-keeps
returns-clause-keeps c = λ _. cleave_keeps c.args.options c.new_name-new_name.ensures.lawful
