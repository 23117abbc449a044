use Rattle.hum_columns.proofs.OfOrigins.{chosen_by_origin}
use Rattle.hum_columns.proofs.laws.marks_are_of_origins.Goals as goal

pub returns : goal.returns
returns c = chosen_by_origin
