use Rattle.hum_nodes.proofs.MergingLaws.{lawful}
use Rattle.hum_nodes.proofs.laws.mergings_are_lawful.Goals as goal

pub returns : goal.returns
returns c = lawful
