use Rattle.hum_nodes.proofs.Fining.{are_fine}
use Rattle.hum_nodes.proofs.laws.what_is_fine.Goals as goal

pub returns : goal.returns
returns c = are_fine
