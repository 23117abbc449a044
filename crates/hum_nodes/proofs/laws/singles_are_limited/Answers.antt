use Rattle.hum_nodes.proofs.Limits.{single_limited}
use Rattle.hum_nodes.proofs.laws.singles_are_limited.Goals as goal

pub returns : goal.returns
returns c = single_limited
