use Rattle.std.proofs.Common.{arith}
use Rattle.hum_engine.proofs.Choosing.{along_here}
use Rattle.hum_engine.proofs.net.Net.go_along.Goals as goal

pub returns : goal.returns
returns g c = along_here c.requires.may (omega (arith, c.requires.less))
