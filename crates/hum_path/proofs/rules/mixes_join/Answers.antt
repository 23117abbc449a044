use Rattle.std.proofs.lemmas.Bool.Decides.{nat_tests}
use Rattle.std.proofs.Common.{arith, length-drop}
use Rattle.hum_path.proofs.Joins.{mixes_short}
use Rattle.hum_path.proofs.rules.mixes_join.Goals as goal

pub returns-then-signs-j-lt2 : goal.returns-then-signs-j-lt2
returns-then-signs-j-lt2 = grind (arith, nat_tests, mixes_short, length-drop)
