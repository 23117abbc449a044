use Rattle.hum_places.proofs.OnGrid.{by_multiples}
use Rattle.hum_places.proofs.OneListing.{one_listing}
use Rattle.hum_places.proofs.grid.grid_by_multiples.Goals as goal

pub returns-clause-placed : goal.returns-clause-placed
returns-clause-placed c = by_multiples

pub returns-clause-alone : goal.returns-clause-alone
returns-clause-alone c = one_listing
