use Rattle.std.proofs.lemmas.Bool.Decides.{nat_tests}
use Rattle.std.proofs.Common.{arith}
use Rattle.hum_frac.proofs.Compared.{by_bottoms, by_tops, same_bottoms, same_tops}
use Rattle.hum_frac.proofs.frac.FracPartialEq.eq.Goals as goal

pub returns-then-self-other-clause-test : goal.returns-then-self-other-clause-test
returns-then-self-other-clause-test = grind (arith, nat_tests, by_bottoms)

pub returns-then-self-other-clause-value : goal.returns-then-self-other-clause-value
returns-then-self-other-clause-value = grind (arith, nat_tests, same_bottoms)

pub returns-else-self-other-clause-test : goal.returns-else-self-other-clause-test
returns-else-self-other-clause-test = grind (arith, nat_tests, by_tops)

pub returns-else-self-other-clause-value : goal.returns-else-self-other-clause-value
returns-else-self-other-clause-value = grind (arith, nat_tests, same_tops)
