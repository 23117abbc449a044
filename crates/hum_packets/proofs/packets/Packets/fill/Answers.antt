use Rattle.std.proofs.Common.{◌+◌, ◌-◌, arith, slice_range, refl}
use Rattle.hum_packets.proofs.Feeding.{fed-read, refilled}
use Rattle.hum_packets.proofs.packets.Packets.fill.Goals as goal

pub returns-clause-fed : goal.returns-clause-fed
returns-clause-fed g c =
    let b = c.self.inside in
    let ys = c.read_once.new.room.items in
    let d = b.end - b.start in
    rw (← c.self.view_is) (fed-read _ _ (slice_range ys d (d + c.in_ok-n.n))
    (refilled b.room.items c.copy_within.new.self.items ys b.start b.end c.in_ok-n.n (omega (arith, c.self.invariant, b.room.ok.0))
    c.copy_within.ensures.items c.read_once.ensures.front)
    c.in_ok-n.ensures.read refl)
