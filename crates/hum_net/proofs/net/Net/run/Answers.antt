use Rattle.hum_net.proofs.Stepping.{ran_lasts}
use Rattle.hum_net.proofs.net.Net.run.Goals as goal

pub run-requires : goal.run-requires
run-requires g c = c.self.invariant

pub invariant_of-self : goal.invariant_of-self
invariant_of-self g c = ran_lasts _ _ _ _ _ _ c.self.invariant c.run.ensures.ran

pub returns : goal.returns
returns g c = rw (← c.self.view_is) c.run.ensures
