use Rattle.std.proofs.lemmas.Bool.Decides.{nat_tests}
use Rattle.std.proofs.Common.{arith}
use Rattle.hum_kern.proofs.Places.{rest_at}
use Rattle.hum_kern.proofs.usual.read_behind.Goals as goal

pub returns-then-start-bytes : goal.returns-then-start-bytes
returns-then-start-bytes = grind (arith, nat_tests, rest_at)
