use Rattle.std.proofs.lemmas.Bool.Decides.{nat_tests}
use Rattle.std.proofs.Common.{arith}
use Rattle.hum_options.proofs.Digits.{goes_over}
use Rattle.hum_options.proofs.numbers.digits_value.Goals as goal

pub returns-then-value-most : goal.returns-then-value-most
returns-then-value-most = grind (arith, nat_tests, goes_over)
