use Rattle.std.proofs.lemmas.Bool.Decides.{nat_tests}
use Rattle.std.proofs.Common.{◌-◌, get_or, arith}
use Rattle.hum_record.proofs.Places.{bits_within}
use Rattle.hum_record.proofs.Cuts.{at_most_one}
use Rattle.hum_record.proofs.bits.bits_one_by_one.Goals as goal

pub overflow_mul-bits : goal.overflow_mul-bits
overflow_mul-bits = grind (arith, nat_tests, bits_within)

pub overflow_add-bits : goal.overflow_add-bits
overflow_add-bits = grind (arith, nat_tests, bits_within, at_most_one, get_or)
