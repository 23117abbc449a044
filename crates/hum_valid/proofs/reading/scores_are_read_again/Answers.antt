use Rattle.hum_valid.proofs.Again.{read_again}
use Rattle.hum_valid.proofs.reading.scores_are_read_again.Goals as goal

pub returns : goal.returns
returns c = read_again
