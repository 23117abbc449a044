use Rattle.std.proofs.lemmas.Bool.Decides.{nat_tests}
use Rattle.std.proofs.Common.{arith}
use Rattle.hum_path.proofs.spine_paths.Paths.keeps_spines.Goals as goal

pub returns-in-Values-clause-valid : goal.returns-in-Values-clause-valid
returns-in-Values-clause-valid = grind (arith, nat_tests)

pub returns-in-Values-clause-same : goal.returns-in-Values-clause-same
returns-in-Values-clause-same = grind (arith, nat_tests)
