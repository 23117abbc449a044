use Rattle.hum_places.proofs.Cutting.{cuts_by_place}
use Rattle.hum_places.proofs.columns.cuts_by_place.Goals as goal

pub returns : goal.returns
returns c = cuts_by_place
