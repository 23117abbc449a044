use Rattle.std.proofs.Common.{◌∙◌}
use Rattle.hum_path.specs.Chains.{origin_of}
use Rattle.hum_path.proofs.Carry.{map_more}
use Rattle.hum_path.proofs.origins.origins_of.Goals as goal

pub loop-i-preserved : goal.loop-i-preserved
loop-i-preserved c =
    rw (c.in_ok-push.ensures.items, c.origin_of.ensures)
    (map_more (origin_of c.args.each.now) c.loop-i.next.items c.args.found.now c.loop-i.i c.get.result c.get.ensures
    ∙ c.loop-i.invariant)
