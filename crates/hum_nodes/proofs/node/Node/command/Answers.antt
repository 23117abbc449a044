use Rattle.hum_stage.specs.Meaning.{opening}
use Rattle.hum_nodes.proofs.node.Node.command.Goals as goal

pub returns-clause-lawful : goal.returns-clause-lawful
returns-clause-lawful g c m h = g.met.S.Stage.lawful c.args.stage (opening m) h
