use Rattle.std.proofs.lemmas.Bool.Decides.{nat_tests}
use Rattle.std.proofs.Common.{arith}
use Rattle.hum_options.proofs.Cuts.{cut_there}
use Rattle.hum_options.proofs.cutting.cut.Goals as goal

pub split_at-requires : goal.split_at-requires
split_at-requires c = rw c.front_len.ensures (cut_there c.args.byte c.args.text.now).2

pub returns-clause-front : goal.returns-clause-front
returns-clause-front = grind (arith, nat_tests, cut_there)

pub returns-clause-remainder : goal.returns-clause-remainder
returns-clause-remainder = grind (arith, nat_tests, cut_there)
