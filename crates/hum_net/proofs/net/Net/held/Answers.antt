use Rattle.hum_net.proofs.net.Net.held.Goals as goal

pub returns-clause-few : goal.returns-clause-few
returns-clause-few g c start s now here = c.held.ensures.few start s now (rw (← c.self.view_is) at here)
