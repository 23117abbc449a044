use Rattle.hum_path.proofs.Climbing.{climbing}
use Rattle.hum_path.proofs.laws.origins_go_up.Goals as goal

pub returns : goal.returns
returns c = climbing
