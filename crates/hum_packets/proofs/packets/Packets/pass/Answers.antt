use Rattle.std.proofs.Common.{◌≡◌, ◌+◌, ◌-◌, ◌≤◌, ◌∙◌, sym, ap, arith, take, drop, length, slice_range}
use Rattle.hum_text.proofs.WindowLemmas.{front-window, drop-window, length-window}
use Rattle.hum_packets.specs.Streams.{further}
use Rattle.hum_packets.proofs.Feeding.{same-reading}
use Rattle.hum_packets.proofs.packets.Packets.pass.Goals as goal

pub returns : goal.returns
returns g c =
    let b = c.self.inside in
    let xs = b.room.items in
    let n = c.args.size in
    let is = ap (λ h. h.pending) c.self.view_is in
    let held = length-window xs b.start b.end (omega (arith, c.self.invariant, b.room.ok.0)) in
    let fits : n ≤ b.end - b.start = omega (arith, c.requires.held, ap length is, held) in
    let last : slice_range xs (b.start + 4) (b.start + n) ≡ drop 4 (take n c.args.self.now.pending) =
    sym (drop-window xs b.start (b.start + n) 4 (omega (arith, c.requires.digits)))
    ∙ ap (drop 4) (front-window xs b.start b.end n fits ∙ ap (take n) is) in
    let pending : slice_range xs (b.start + n) b.end ≡ drop n c.args.self.now.pending =
    sym (drop-window xs b.start b.end n fits) ∙ ap (drop n) is in
    let passed = ap (λ h. h.passed) c.self.view_is in
    let range = c.self.ranges in
    let counted : c.saturating_add-self-inside.result ≡ further b.passed n = omega (arith, c.saturating_add-self-inside.ensures, range) in
    same-reading (ap (λ h. h.source) c.self.view_is) last pending (counted ∙ ap (λ k. further k n) passed)
