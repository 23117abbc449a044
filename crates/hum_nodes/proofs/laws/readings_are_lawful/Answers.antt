use Rattle.hum_nodes.proofs.ReadingLaws.{lawful}
use Rattle.hum_nodes.proofs.laws.readings_are_lawful.Goals as goal

pub returns : goal.returns
returns c = lawful
