use Rattle.hum_valid.proofs.Trees.{tree_records}
use Rattle.hum_valid.proofs.records.trees_mean_records.Goals as goal

pub returns : goal.returns
returns c = tree_records
