use Rattle.std.proofs.lemmas.Bool.Decides.{nat_tests}
use Rattle.std.proofs.Common.{arith}
use Rattle.hum_record.proofs.Filled.{put_front}
use Rattle.hum_record.proofs.filling.put_short.Goals as goal

pub returns-clause-text : goal.returns-clause-text
returns-clause-text = grind (arith, nat_tests, put_front)
