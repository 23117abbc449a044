use Rattle.hum_nodes.proofs.ReadingLaws.{keeps_fine}
use Rattle.hum_nodes.proofs.laws.readings_keep_fine.Goals as goal

pub returns : goal.returns
returns c = keeps_fine
