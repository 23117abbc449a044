use Rattle.std.proofs.lemmas.Bool.Decides.{nat_tests}
use Rattle.std.proofs.Common.{arith}
use Rattle.hum_columns.proofs.OneByOne.{touches_some}
use Rattle.hum_columns.proofs.joins.records_for.Goals as goal

pub returns-then-touches-clause-some : goal.returns-then-touches-clause-some
returns-then-touches-clause-some = grind (arith, nat_tests, touches_some)
