use Rattle.std.proofs.lemmas.Bool.Decides.{nat_tests}
use Rattle.std.proofs.Common.{arith}
use Rattle.hum_path.proofs.Joins.{mixed_more}
use Rattle.hum_path.proofs.rules.has_mixed_join.Goals as goal

pub loop-j-preserved : goal.loop-j-preserved
loop-j-preserved = grind (arith, nat_tests, mixed_more)
