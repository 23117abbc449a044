use Rattle.hum_nodes.proofs.SingleLaws.{keeps_fine}
use Rattle.hum_nodes.proofs.laws.singles_keep_fine.Goals as goal

pub returns : goal.returns
returns c = keeps_fine
