use Rattle.std.proofs.lemmas.Bool.Decides.{nat_tests}
use Rattle.std.proofs.Common.{arith}
use Rattle.hum_record.proofs.Plain.{bits_few, byte_few, none_found}
use Rattle.hum_record.proofs.tokens.may_have_mark.Goals as goal

pub overflow_mul-heads : goal.overflow_mul-heads
overflow_mul-heads c = let few = bits_few 9 c.args.block.now c.requires.short in let is = c.requires.tabs in omega (arith, few, is)

pub overflow_add-heads : goal.overflow_add-heads
overflow_add-heads = grind (arith, nat_tests, bits_few, byte_few)

pub returns : goal.returns
returns = grind (arith, nat_tests, none_found)
