use Rattle.std.proofs.Common.{◌∙◌, ap, is_some}
use Rattle.hum_engine.proofs.Running.{some_actor}
use Rattle.hum_engine.proofs.net.Net.over.Goals as goal

pub returns-clause-progress : goal.returns-clause-progress
returns-clause-progress g c start s now h none = some_actor h none

pub returns-clause-over : goal.returns-clause-over
returns-clause-over g c start s now h = c.is_some.ensures ∙ ap is_some (c.result.ensures start s now h)
