use Rattle.hum_places.proofs.Above.{cells_above}
use Rattle.hum_places.proofs.spines.cells_above.Goals as goal

pub returns : goal.returns
returns c = cells_above
