use Rattle.std.proofs.lemmas.Bool.Decides.{nat_tests}
use Rattle.std.proofs.Common.{arith}
use Rattle.hum_tones.proofs.Numbers.{sign_lawful}
use Rattle.hum_tones.proofs.trans.TransSignPartwise.begin.Goals as goal

pub returns-clause-lawful : goal.returns-clause-lawful
returns-clause-lawful = grind (arith, nat_tests, sign_lawful)
