use Rattle.hum_places.proofs.Cleaving.{merges_by_place, are_together}
use Rattle.hum_places.proofs.columns.merges_by_place.Goals as goal

pub returns-clause-merged : goal.returns-clause-merged
returns-clause-merged c = merges_by_place

pub returns-clause-together : goal.returns-clause-together
returns-clause-together c = are_together
