use Rattle.hum_net.proofs.net.Net.into_writer.Goals as goal

pub returns-clause-front : goal.returns-clause-front
returns-clause-front g c start s now here =
    c.into_writer.ensures.front start s now (rw (← c.self.view_is) at here)
