use Rattle.hum_net.proofs.Stepping.{is_running}
use Rattle.hum_net.proofs.net.Net.over.Goals as goal

pub over-requires : goal.over-requires
over-requires g c = is_running _ c.self.invariant

pub returns-clause-progress : goal.returns-clause-progress
returns-clause-progress g c start s now here =
    c.over.ensures.progress start s now (rw (← c.self.view_is) at here)

pub returns-clause-over : goal.returns-clause-over
returns-clause-over g c start s now here = c.over.ensures.over start s now (rw (← c.self.view_is) at here)
