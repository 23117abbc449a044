use Rattle.hum_places.proofs.Passing.{by_nearest, are_numbers}
use Rattle.hum_places.proofs.passages.passages_by_marker.Goals as goal

pub returns-clause-nearest : goal.returns-clause-nearest
returns-clause-nearest c = by_nearest

pub returns-clause-numbers : goal.returns-clause-numbers
returns-clause-numbers c = are_numbers
