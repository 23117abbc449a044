use Rattle.std.proofs.lemmas.Bool.Decides.{nat_tests}
use Rattle.std.proofs.Common.{arith}
use Rattle.hum_path.proofs.Climbing.{at_place}
use Rattle.hum_path.proofs.origins.Origins.at.Goals as goal

pub returns-clause-origin : goal.returns-clause-origin
returns-clause-origin = grind (arith, nat_tests, at_place)
