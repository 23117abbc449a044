use Rattle.std.proofs.lemmas.Bool.Decides.{nat_tests}
use Rattle.std.proofs.Common.{arith}
use Rattle.hum_assemble.proofs.Fitting.{width_under_after}
use Rattle.hum_assemble.proofs.placing.width_after.Goals as goal

pub width_under-requires : goal.width_under-requires
width_under-requires = grind (arith, nat_tests)

pub returns-then-opened : goal.returns-then-opened
returns-then-opened = grind (arith, nat_tests, width_under_after)
