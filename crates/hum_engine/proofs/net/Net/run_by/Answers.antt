use Rattle.hum_engine.proofs.Telling.{fewer_left, may_go, ran_first, ran_on, ran_out}
use Rattle.hum_engine.proofs.net.Net.run_by.Goals as goal

pub loop-init : goal.loop-init
loop-init g c = ran_first c.requires

pub step_by-requires : goal.step_by-requires
step_by-requires g c = may_go c.loop.invariant

pub loop-smaller : goal.loop-smaller
loop-smaller g c = fewer_left c.loop.invariant c.step_by.ensures.advanced c.loop-test.true c.step_by.ensures.closer

pub loop-preserved : goal.loop-preserved
loop-preserved g c = ran_on c.loop.invariant c.step_by.ensures.advanced c.loop-test.true

pub returns : goal.returns
returns g c = ran_out c.loop.invariant c.step_by.ensures.advanced c.loop-test.false
