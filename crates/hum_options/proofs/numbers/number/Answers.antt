use Rattle.std.proofs.Common.{arith}
use Rattle.hum_options.proofs.Choices.{read_as}
use Rattle.hum_options.proofs.Digits.{number_is, number_alone}
use Rattle.hum_options.proofs.numbers.number.Goals as goal

pub returns : goal.returns
returns c = read_as c.read_number.ensures (λ n. number_is (omega arith)) (λ n. number_alone (omega arith))
