use Rattle.std.proofs.lemmas.Bool.Decides.{nat_tests}
use Rattle.std.proofs.Common.{arith}
use Rattle.hum_yank.proofs.Telling.{all_last}
use Rattle.hum_yank.proofs.memory.PassageMemoryLooksAhead.lasting.Goals as goal

pub returns : goal.returns
returns = grind (arith, nat_tests, all_last)
