use Rattle.std.proofs.Common.{refl, arith}
use Rattle.hum_engine.proofs.Choosing.{along_none}
use Rattle.hum_engine.proofs.Telling.{fewer_left, may_go, ran_all, ran_first, ran_on, ran_out}
use Rattle.hum_engine.proofs.net.Net.feed.Goals as goal

pub loop-k-init : goal.loop-k-init
loop-k-init g c = ran_first c.requires

pub step_along-requires-clause-may : goal.step_along-requires-clause-may
step_along-requires-clause-may g c = may_go c.loop-k.invariant

pub loop-k-smaller : goal.loop-k-smaller
loop-k-smaller g c = fewer_left c.loop-k.invariant c.in-Some.ensures.advanced refl c.in-Some.ensures.closer

pub loop-k-preserved : goal.loop-k-preserved
loop-k-preserved g c = ran_on c.loop-k.invariant c.in-Some.ensures.advanced refl

pub returns-in-None : goal.returns-in-None
returns-in-None g c = ran_out c.loop-k.invariant c.in-None.ensures.advanced refl

pub returns : goal.returns
returns g c = ran_all c.loop-k.invariant (along_none (may_go c.loop-k.invariant) (omega (arith, c.loop-k-test.false)))
