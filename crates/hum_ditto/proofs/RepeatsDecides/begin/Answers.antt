use Rattle.hum_ditto.proofs.Keeping.{ditto_keeps}
use Rattle.hum_ditto.proofs.RepeatsDecides.begin.Goals as goal

pub returns-clause-keeps : goal.returns-clause-keeps
returns-clause-keeps c = λ _. ditto_keeps c.args.options
