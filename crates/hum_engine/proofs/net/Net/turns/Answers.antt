use Rattle.std.proofs.Common.{arith}
use Rattle.hum_engine.proofs.Running.{holds_at}
use Rattle.hum_engine.proofs.net.Net.turns.Goals as goal

pub returns-clause-most : goal.returns-clause-most
returns-clause-most g c start s now h none = omega (arith, ((holds_at h).holds none).1.all, h.counted)

pub returns-clause-each : goal.returns-clause-each
returns-clause-each g c start s now h none k = ((holds_at h).holds none).1.each k
