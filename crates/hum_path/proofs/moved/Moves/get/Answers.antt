use Rattle.std.proofs.lemmas.Bool.Decides.{nat_tests}
use Rattle.std.proofs.Common.{arith}
use Rattle.std.proofs.lemmas.Option.{slice_get_read}
use Rattle.hum_path.proofs.Steady.{same_upto_length, get-same_upto_first}
use Rattle.hum_path.proofs.moved.Moves.get.Goals as goal

pub overflow_cast-result : goal.overflow_cast-result
overflow_cast-result = grind (arith, nat_tests, same_upto_length)

pub returns-in-None : goal.returns-in-None
returns-in-None = grind (arith, nat_tests, same_upto_length, get-same_upto_first)

pub returns-in-Some : goal.returns-in-Some
returns-in-Some = grind (arith, nat_tests, slice_get_read)
