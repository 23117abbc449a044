use Rattle.std.proofs.lemmas.Grind.{common_steps}
use Rattle.std.proofs.lemmas.Bool.Decides.{nat_tests}
use Rattle.std.proofs.Common.{get_or, arith}
use Rattle.hum_assemble.proofs.Firsts.{passed}
use Rattle.hum_assemble.proofs.placing.is_inside.Goals as goal

pub returns-then-is_empty : goal.returns-then-is_empty
returns-then-is_empty = grind (arith, common_steps)

pub loop-j-preserved : goal.loop-j-preserved
loop-j-preserved = grind (arith, nat_tests, get_or, passed)

pub returns : goal.returns
returns = grind (arith, common_steps)
