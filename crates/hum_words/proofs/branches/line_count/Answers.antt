use Rattle.std.proofs.lemmas.Bool.Decides.{nat_tests}
use Rattle.std.proofs.Common.{arith}
use Rattle.hum_words.proofs.Divided.{no_lines}
use Rattle.hum_words.proofs.branches.line_count.Goals as goal

pub returns : goal.returns
returns = grind (arith, nat_tests, no_lines)
