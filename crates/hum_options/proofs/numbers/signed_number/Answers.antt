use Rattle.std.proofs.lemmas.Bool.Decides.{nat_tests}
use Rattle.std.proofs.Common.{arith}
use Rattle.hum_options.proofs.Choices.{IfSome_from, read_as}
use Rattle.hum_options.proofs.Signs.{signed_is, signed_alone, signed_within}
use Rattle.hum_options.proofs.numbers.signed_number.Goals as goal

pub returns-clause-read : goal.returns-clause-read
returns-clause-read = grind (arith, nat_tests, read_as, signed_is, signed_alone)

pub returns-clause-within : goal.returns-clause-within
returns-clause-within c = IfSome_from c.read_signed.result
    (λ n is. signed_within (signed_is c.args.text.now (omega arith) (rw c.read_signed.ensures at is)))
