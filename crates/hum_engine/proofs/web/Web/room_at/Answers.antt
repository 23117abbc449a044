use Rattle.std.proofs.Common.{arith}
use Rattle.hum_engine.proofs.Feeding.{link_at, node_at}
use Rattle.hum_engine.proofs.web.Web.room_at.Goals as goal

pub returns : goal.returns
returns g c s h =
    let waiting = c.room-waiting.ensures s.size (s.links c.args.k)
    (h.stand.links c.args.k _ (link_at h.less h.stand c.index.ensures)) in
    let held = c.room.ensures (s.rests c.args.k) _
    (h.stand.nodes c.args.k _ (node_at h.less h.stand c.index-node.ensures)) in
    omega (arith, waiting, held, c.saturating_add.ensures)

pub returns-then-is_source : goal.returns-then-is_source
returns-then-is_source g c s h =
    let waiting = c.room-waiting.ensures s.size (s.links c.args.k)
    (h.stand.links c.args.k _ (link_at h.less h.stand c.index.ensures)) in
    omega (arith, waiting)
