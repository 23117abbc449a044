use Rattle.hum_places.proofs.Cleaving.{tokens_by_place}
use Rattle.hum_places.proofs.Taken.{taken_by_place}
use Rattle.hum_places.proofs.columns.tokens_by_place.Goals as goal

pub returns-clause-one : goal.returns-clause-one
returns-clause-one c = tokens_by_place

pub returns-clause-taken : goal.returns-clause-taken
returns-clause-taken c = taken_by_place
