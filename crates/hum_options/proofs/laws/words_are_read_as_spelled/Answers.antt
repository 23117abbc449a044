use Rattle.hum_options.proofs.Spelled.{read_as_spelled}
use Rattle.hum_options.proofs.laws.words_are_read_as_spelled.Goals as goal

pub returns : goal.returns
returns c = read_as_spelled
