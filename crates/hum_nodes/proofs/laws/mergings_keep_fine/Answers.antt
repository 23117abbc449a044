use Rattle.hum_nodes.proofs.MergingLaws.{keeps_fine}
use Rattle.hum_nodes.proofs.laws.mergings_keep_fine.Goals as goal

pub returns : goal.returns
returns c = keeps_fine
