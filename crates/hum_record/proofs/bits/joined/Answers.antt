use Rattle.std.proofs.lemmas.Bool.Decides.{nat_tests}
use Rattle.std.proofs.Common.{arith}
use Rattle.hum_record.proofs.Places.{join, high_fits}
use Rattle.hum_record.proofs.bits.joined.Goals as goal

pub overflow_add-result : goal.overflow_add-result
overflow_add-result = grind (arith, nat_tests, high_fits)

pub returns : goal.returns
returns c = grind (arith, nat_tests, high_fits, join)
