use Rattle.hum_options.proofs.Refusing.{in_order}
use Rattle.hum_options.proofs.laws.words_are_refused_in_order.Goals as goal

pub returns : goal.returns
returns c = in_order
