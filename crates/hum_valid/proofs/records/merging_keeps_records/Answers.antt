use Rattle.hum_valid.proofs.Merged.{merged_records}
use Rattle.hum_valid.proofs.records.merging_keeps_records.Goals as goal

pub returns : goal.returns
returns c = merged_records
