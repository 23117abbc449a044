use Rattle.hum_valid.proofs.Denoted.{score_records}
use Rattle.hum_valid.proofs.reading.scores_are_records.Goals as goal

pub returns : goal.returns
returns c = score_records
