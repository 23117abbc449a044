use Rattle.hum_words.proofs.Writable.{can_be_written}
use Rattle.hum_words.proofs.laws.words_can_be_written.Goals as goal

pub returns : goal.returns
returns c = can_be_written
