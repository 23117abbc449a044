use Rattle.std.proofs.lemmas.Bool.Decides.{nat_tests}
use Rattle.std.proofs.Common.{◌+◌, ◌-◌, ◌≤◌, ap, arith, length, slice_range}
use Rattle.hum_text.proofs.WindowLemmas.{front-window, drop-window, length-window, moved_on}
use Rattle.hum_text.proofs.block.Block.hand_out.Goals as goal

pub overflow_add-self : goal.overflow_add-self
overflow_add-self = grind (arith, nat_tests, length-window)

pub invariant_of-self : goal.invariant_of-self
invariant_of-self c =
    let b = c.self.inside in
    let is = ap (λ h. length h.pending) c.self.view_is in
    let w = c.self.invariant.0 in
    let held = length-window b.bytes.items b.start b.end w.high in
    let low = w.low in
    let middle = w.middle in
    let fits : b.start + c.args.size ≤ b.end = omega (arith, is, held, c.requires.within, low, middle) in (
      moved_on b.bytes.items b.start b.scanned b.end c.args.size w fits,
      omega (arith, fits, c.requires.order),
    )

pub returns : goal.returns
returns = grind (arith, nat_tests, length-window, slice_range, front-window, drop-window)
