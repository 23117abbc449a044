use Rattle.hum_kern.proofs.Again.{read_again}
use Rattle.hum_kern.proofs.writing.durations_are_read_again.Goals as goal

pub returns : goal.returns
returns c = read_again
