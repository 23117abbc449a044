use Rattle.std.proofs.lemmas.Bool.Decides.{nat_tests}
use Rattle.std.proofs.Common.{arith}
use Rattle.hum_extract.proofs.due.MostlyOneDueRecords.room.Goals as goal

pub returns : goal.returns
returns = grind (arith, nat_tests)
