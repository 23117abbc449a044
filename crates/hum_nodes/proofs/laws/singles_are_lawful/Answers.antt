use Rattle.hum_nodes.proofs.SingleLaws.{lawful}
use Rattle.hum_nodes.proofs.laws.singles_are_lawful.Goals as goal

pub returns : goal.returns
returns c = lawful
