use Rattle.hum_turns.proofs.Marking.{every_source_marks}
use Rattle.hum_turns.proofs.theorems.every_source_marks.Goals as goal

pub returns : goal.returns
returns g c = every_source_marks
