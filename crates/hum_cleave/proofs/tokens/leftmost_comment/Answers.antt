use Rattle.std.proofs.lemmas.Bool.Decides.{nat_tests}
use Rattle.std.proofs.Common.{get_or, arith}
use Rattle.hum_cleave.proofs.Gathering.{left_skips, left_passes}
use Rattle.hum_cleave.proofs.tokens.leftmost_comment.Goals as goal

pub loop-j-preserved : goal.loop-j-preserved
loop-j-preserved = grind (arith, nat_tests, get_or, left_passes, left_skips)
