use Rattle.hum_net.proofs.Stepping.{may_go, turned_lasts}
use Rattle.hum_net.proofs.net.Net.turn.Goals as goal

pub turn-requires : goal.turn-requires
turn-requires g c = may_go _ _ c.self.invariant (rw (← c.self.view_is) at c.requires.within)
    (rw (← c.self.view_is) at c.requires.ready)

pub invariant_of-self : goal.invariant_of-self
invariant_of-self g c = turned_lasts _ _ _ _ c.self.invariant (rw (← c.self.view_is) at c.requires.within)
    (rw (← c.self.view_is) at c.requires.ready) c.turn.ensures.gone.turned

pub returns-clause-asked : goal.returns-clause-asked
returns-clause-asked g c start s now h here =
    rw (← c.self.view_is) (c.turn.ensures.little.sink start s now (rw (← c.self.view_is) at h)
    (c.requires.ready start s now h) here).0

pub returns-clause-flushes : goal.returns-clause-flushes
returns-clause-flushes g c start s now h here =
    rw (← c.self.view_is) (c.turn.ensures.little.sink start s now (rw (← c.self.view_is) at h)
    (c.requires.ready start s now h) here).1
