use Rattle.hum_places.proofs.Heirs.{by_place}
use Rattle.hum_places.proofs.OneWay.{one_way, stays}
use Rattle.hum_places.proofs.spines.heirs_by_place.Goals as goal

pub returns-clause-moved : goal.returns-clause-moved
returns-clause-moved c = by_place

pub returns-clause-alone : goal.returns-clause-alone
returns-clause-alone c = one_way

pub returns-clause-still : goal.returns-clause-still
returns-clause-still c = stays
