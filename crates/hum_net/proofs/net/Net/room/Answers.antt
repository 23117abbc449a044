use Rattle.hum_net.proofs.net.Net.room.Goals as goal

pub returns : goal.returns
returns g c start s now here = c.room.ensures start s now (rw (← c.self.view_is) at here)
