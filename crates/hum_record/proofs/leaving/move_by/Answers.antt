use Rattle.std.proofs.lemmas.Bool.Decides.{nat_tests}
use Rattle.std.proofs.Common.{arith}
use Rattle.hum_record.proofs.Moved.{by_both}
use Rattle.hum_record.proofs.leaving.move_by.Goals as goal

pub returns : goal.returns
returns = grind (arith, nat_tests, by_both)
