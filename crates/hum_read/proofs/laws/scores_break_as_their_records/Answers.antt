use Rattle.hum_read.proofs.Faults.{of_its_records}
use Rattle.hum_read.proofs.laws.scores_break_as_their_records.Goals as goal

pub returns : goal.returns
returns c = of_its_records
