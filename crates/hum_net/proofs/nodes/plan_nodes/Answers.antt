use Rattle.std.proofs.Common.{ap, length, arith}
use Rattle.std.proofs.lemmas.List.{length-map, drop_all}
use Rattle.hum_plan.specs.Seen.{stage_of}
use Rattle.hum_net.proofs.Building.{none_built, one_built, all_built, at_next, fewer_built}
use Rattle.hum_net.proofs.Treeing.{are_narrow}
use Rattle.hum_net.proofs.nodes.plan_nodes.Goals as goal

pub loop-stage-init : goal.loop-stage-init
loop-stage-init g c = rw c.in_ok-nodes.ensures.items (none_built
    (rw c.from-left.ensures.0 c.requires.readers) (are_narrow c.args.stages.now c.requires.tree))

pub plan_node-requires-clause-few : goal.plan_node-requires-clause-few
plan_node-requires-clause-few g c =
    let fewer = fewer_built (at_next c.loop-stage.invariant c.loop-stage-test.true c.stage-item.is) in
    let bound = rw (length-map c.args.stages.now stage_of) at c.requires.tree.bound in
    let k = c.len.ensures in
    omega (arith, fewer, bound, k)

pub plan_node-requires-clause-narrow : goal.plan_node-requires-clause-narrow
plan_node-requires-clause-narrow g c =
    (at_next c.loop-stage.invariant c.loop-stage-test.true c.stage-item.is).narrow.0

pub plan_node-requires-clause-reader : goal.plan_node-requires-clause-reader
plan_node-requires-clause-reader g c =
    let many = (at_next c.loop-stage.invariant c.loop-stage-test.true c.stage-item.is).many in
    omega (arith, many)

pub loop-stage-preserved : goal.loop-stage-preserved
loop-stage-preserved g c =
    rw c.in_ok-push.ensures.items (one_built (at_next c.loop-stage.invariant c.loop-stage-test.true c.stage-item.is)
    (let k = c.len.ensures in let o = c.loop-stage.nodes.ok.0 in omega (arith, k, o)) c.in_ok-node.ensures.fits
    c.in_ok-node.ensures.told c.plan_node.ensures.left)

pub returns-clause-fits : goal.returns-clause-fits
returns-clause-fits g c =
    (all_built c.loop-stage.invariant (ap length (drop_all c.loop-stage.stage-index c.args.stages.now c.loop-stage-test.false))).0

pub returns-clause-told : goal.returns-clause-told
returns-clause-told g c =
    rw (← c.from-left.ensures.0)
    (all_built c.loop-stage.invariant (ap length (drop_all c.loop-stage.stage-index c.args.stages.now c.loop-stage-test.false))).1
