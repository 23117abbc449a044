use Rattle.std.proofs.Common.{subst}
use Rattle.std.proofs.lemmas.Result.{err_from_is_err_and}
use Rattle.hum_packets.specs.Lists.{Stops}
use Rattle.hum_packets.specs.Held.{HoldsPacket}
use Rattle.hum_packets.proofs.Stepping.{fed-lost, fed-took, took-end, took-packet, least-size}
use Rattle.hum_packets.proofs.packets.Packets.next.Goals as goal

pub returns-in_err-size-clause-lost : goal.returns-in_err-size-clause-lost
returns-in_err-size-clause-lost g c =
    let p = err_from_is_err_and c.from_residual.result c.from_residual.ensures.1 in
    rw (p.1, p.2) (fed-lost g.R.Source Stops c.args.self.now c.hold_packet.new.self c.in_err-size.field-0.0 c.in_err-size.ensures.fed
    c.in_err-size.ensures.lost)

pub pass-requires-2-clause-digits : goal.pass-requires-2-clause-digits
pass-requires-2-clause-digits g c =
    least-size c.hold_packet.new.self.pending c.in_ok-size.size c.in_ok-size.ensures.held c.if-size-eq0.false

pub returns-then-size-eq0-clause-took : goal.returns-then-size-eq0-clause-took
returns-then-size-eq0-clause-took g c =
    fed-took g.R.Source c.in_ok-size.ensures.fed (took-end g.R.Source c.hold_packet.new.self c.pass.new.self
    (subst (HoldsPacket c.hold_packet.new.self.pending) c.if-size-eq0.true c.in_ok-size.ensures.held) c.pass.ensures)

pub returns-clause-took : goal.returns-clause-took
returns-clause-took g c =
    let held = c.in_ok-size.ensures.held in
    fed-took g.R.Source c.in_ok-size.ensures.fed (took-packet g.R.Source c.hold_packet.new.self c.pass-2.new.self c.in_ok-size.size held
    (least-size c.hold_packet.new.self.pending c.in_ok-size.size held c.if-size-eq0.false) c.pass-2.ensures)
