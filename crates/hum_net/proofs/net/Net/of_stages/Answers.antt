use Rattle.std.proofs.Common.{◌<◌, arith}
use Rattle.hum_net.specs.Scenes.{first_now}
use Rattle.hum_net.proofs.Going.{is_first, all_begun, all_tell, few_nodes, sound_from}
use Rattle.hum_net.proofs.net.Net.of_stages.Goals as goal

pub of_nodes-requires : goal.of_nodes-requires
of_nodes-requires g c =
    record { few = few_nodes _ c.args.stages.now c.in-Ok.nodes.items c.requires.tree c.in-Ok.ensures.fits }

pub invariant_of-result : goal.invariant_of-result
invariant_of-result g c =
    let some : 0 < c.args.link = let l = c.requires.link in omega (arith, l) in
    c.in_ok-engine.ensures.runs _
    (all_begun c.args.stages.now c.in-Ok.nodes.items c.args.link c.requires.tree some c.in-Ok.ensures.fits)

pub returns-clause-opens : goal.returns-clause-opens
returns-clause-opens g c bytes =
    let some : 0 < c.args.link = let l = c.requires.link in omega (arith, l) in
    let begun =
    all_begun c.args.stages.now c.in-Ok.nodes.items c.args.link c.requires.tree some c.in-Ok.ensures.fits in
    c.in_ok-engine.ensures.ok _ first_now is_first (begun.plan bytes) (begun.begun bytes)

pub returns-clause-tells : goal.returns-clause-tells
returns-clause-tells g c bytes told = rw c.in_ok-engine.ensures.nodes
    (all_tell g.R.Source bytes c.args.stages.now c.in-Ok.nodes.items (c.in-Ok.ensures.told bytes told))

pub returns-clause-valid : goal.returns-clause-valid
returns-clause-valid g c =
    sound_from g.S.Stage 0 c.args.stages.now c.in-Ok.nodes.items c.in-Ok.ensures.fits
