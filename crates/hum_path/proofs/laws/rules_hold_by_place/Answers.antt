use Rattle.hum_path.proofs.Places.{rules_by_place}
use Rattle.hum_path.proofs.laws.rules_hold_by_place.Goals as goal

pub returns : goal.returns
returns c = rules_by_place
