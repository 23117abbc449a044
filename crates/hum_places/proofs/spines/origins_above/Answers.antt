use Rattle.hum_places.proofs.Above.{origins_above}
use Rattle.hum_places.proofs.spines.origins_above.Goals as goal

pub returns : goal.returns
returns c = origins_above
