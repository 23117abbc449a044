use Rattle.hum_places.proofs.SpreadPlaces.{by_place}
use Rattle.hum_places.proofs.spread.spreads_by_place.Goals as goal

pub returns : goal.returns
returns c = by_place
