use Rattle.hum_nodes.proofs.Limits.{kept_limited}
use Rattle.hum_nodes.proofs.laws.kept_stages_are_limited.Goals as goal

pub returns : goal.returns
returns c = kept_limited
