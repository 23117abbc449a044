use Rattle.hum_kern.proofs.Again.{number_alone}
use Rattle.hum_kern.proofs.Decimals.{parts_are_decimal}
use Rattle.hum_kern.proofs.writing.numbers_are_decimal.Goals as goal

pub returns-clause-digits : goal.returns-clause-digits
returns-clause-digits c = parts_are_decimal

pub returns-clause-alone : goal.returns-clause-alone
returns-clause-alone c = number_alone
