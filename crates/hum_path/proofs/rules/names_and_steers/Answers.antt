use Rattle.std.proofs.lemmas.Bool.Decides.{nat_tests}
use Rattle.std.proofs.Common.{arith}
use Rattle.hum_path.proofs.Plain.{signs_exclusive}
use Rattle.hum_path.proofs.rules.names_and_steers.Goals as goal

pub returns-then-has_exclusive : goal.returns-then-has_exclusive
returns-then-has_exclusive = grind (arith, nat_tests, signs_exclusive)

pub returns-else-has_exclusive : goal.returns-else-has_exclusive
returns-else-has_exclusive = grind (arith, nat_tests, signs_exclusive)
