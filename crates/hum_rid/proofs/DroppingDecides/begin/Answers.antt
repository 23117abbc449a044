use Rattle.hum_rid.proofs.Keeping.{rid_keeps}
use Rattle.hum_rid.proofs.DroppingDecides.begin.Goals as goal

pub returns-clause-keeps : goal.returns-clause-keeps
returns-clause-keeps c = rid_keeps c.args.options
