use Rattle.std.proofs.lemmas.Bool.Decides.{nat_tests}
use Rattle.std.proofs.Common.{arith}
use Rattle.hum_frac.proofs.Ratios.{same_parts}
use Rattle.hum_kern.proofs.Dots.{shared_bound, shared_positive, shared_reduced}
use Rattle.hum_kern.proofs.base.with_dots.Goals as goal

pub overflow_mul-numerator : goal.overflow_mul-numerator
overflow_mul-numerator = grind (arith, nat_tests, shared_bound)

pub overflow_add-numerator : goal.overflow_add-numerator
overflow_add-numerator = grind (arith, nat_tests, shared_bound)

pub overflow_mul-denominator : goal.overflow_mul-denominator
overflow_mul-denominator = grind (arith, nat_tests, shared_bound)

pub new-requires-clause-top : goal.new-requires-clause-top
new-requires-clause-top = grind (arith, nat_tests, shared_bound)

pub new-requires-clause-bottom : goal.new-requires-clause-bottom
new-requires-clause-bottom = grind (arith, nat_tests, shared_bound)

pub new-requires-clause-positive : goal.new-requires-clause-positive
new-requires-clause-positive = grind (arith, nat_tests, shared_positive)

pub returns : goal.returns
returns = grind (arith, nat_tests, same_parts, shared_reduced)
