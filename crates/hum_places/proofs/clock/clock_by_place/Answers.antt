use Rattle.hum_places.proofs.Clocked.{leads_by_place}
use Rattle.hum_places.proofs.Timed.{time_by_place, last_kept}
use Rattle.hum_places.proofs.clock.clock_by_place.Goals as goal

pub returns-clause-leads : goal.returns-clause-leads
returns-clause-leads c = leads_by_place

pub returns-clause-time : goal.returns-clause-time
returns-clause-time c = time_by_place

pub returns-clause-last : goal.returns-clause-last
returns-clause-last c = last_kept
