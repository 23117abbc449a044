use Rattle.hum_words.proofs.Divided.{divided}
use Rattle.hum_words.proofs.laws.texts_are_divided.Goals as goal

pub returns : goal.returns
returns c = divided
