use Rattle.hum_engine.proofs.Telling.{fewer_left, may_go, ran_left, ran_on, ran_out}
use Rattle.std.proofs.Common.{refl}
use Rattle.hum_engine.proofs.net.Net.run_tree_from_left.Goals as goal

pub loop-next-init : goal.loop-next-init
loop-next-init g c = ran_left c.requires

pub step_left-requires : goal.step_left-requires
step_left-requires g c = may_go c.loop-next.invariant

pub loop-next-smaller : goal.loop-next-smaller
loop-next-smaller g c = fewer_left c.loop-next.invariant c.in-Some.ensures.advanced refl c.in-Some.ensures.closer

pub loop-next-preserved : goal.loop-next-preserved
loop-next-preserved g c = ran_on c.loop-next.invariant c.in-Some.ensures.advanced refl

pub returns : goal.returns
returns g c = ran_out c.loop-next.invariant c.in_default.ensures.advanced refl
