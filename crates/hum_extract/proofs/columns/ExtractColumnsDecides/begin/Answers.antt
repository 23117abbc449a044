use Rattle.hum_extract.proofs.KeepsScores.{extract_keeps}
use Rattle.hum_extract.proofs.columns.ExtractColumnsDecides.begin.Goals as goal

pub returns-clause-keeps : goal.returns-clause-keeps
returns-clause-keeps c = λ _. extract_keeps _
