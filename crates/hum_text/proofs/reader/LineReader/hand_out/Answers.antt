use Rattle.std.proofs.Common.{◌<◌, ◌≤◌, ◌+◌, ap, sym, subst, length, length-drop, arith}
use Rattle.hum_text.proofs.reader.LineReader.hand_out.Goals as goal

pub invariant_of-self : goal.invariant_of-self
invariant_of-self g c =
    let b = c.self.inside in
    let i = c.self.invariant.0 in
    let size = c.args.size in
    let records : b.given < b.limits.records = subst (λ w. w.given < w.limits.records) (sym c.self.view_is) c.requires.records in
    let bytes : b.taken + size ≤ b.limits.bytes = subst (λ w. w.taken + size ≤ w.limits.bytes) (sym c.self.view_is) c.requires.bytes in
    let left = ap (λ h. length h.pending) c.hand_out.ensures in
    let some = c.requires.some in (
      record {
        lines = omega (arith, i.lines, records, some);
        bytes = omega (arith, i.bytes, bytes);
        line = omega (arith, i.line);
        held = omega (arith, i.held, left, length-drop size b.block.pending);
      },
      c.self.invariant.1,
    )
