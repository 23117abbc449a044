use Rattle.std.proofs.lemmas.Bool.Decides.{nat_tests}
use Rattle.std.proofs.Common.{arith}
use Rattle.hum_frac.proofs.Gcds.{lowest_one, gcd_of_one}
use Rattle.hum_frac.proofs.Ratios.{same_parts}
use Rattle.hum_frac.proofs.frac.one_over.Goals as goal

pub invariant_of-result : goal.invariant_of-result
invariant_of-result = grind (arith, nat_tests, lowest_one)

pub returns : goal.returns
returns = grind (arith, nat_tests, gcd_of_one, same_parts)
