use Rattle.hum_net.proofs.Stepping.{is_running}
use Rattle.hum_net.proofs.net.Net.result.Goals as goal

pub result-requires : goal.result-requires
result-requires g c = is_running _ c.self.invariant

pub returns : goal.returns
returns g c start s now here = c.result.ensures start s now (rw (← c.self.view_is) at here)
