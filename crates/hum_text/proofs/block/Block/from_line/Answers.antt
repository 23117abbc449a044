use Rattle.std.proofs.Common.{◌∙◌, sym, ap, arith, length}
use Rattle.hum_text.proofs.WindowLemmas.{front-window}
use Rattle.hum_text.proofs.block.Block.from_line.Goals as goal

pub returns-clause-line : goal.returns-clause-line
returns-clause-line c =
    let b = c.self.inside in
    let xs = b.bytes.items in
    let before = c.self.invariant.1 in
    let high = c.self.invariant.0.high in
    rw c.deref.ensures.value (
    sym (front-window xs b.line_start (length xs) b.line_len (omega (arith, before, high))) ∙ ap (λ h. h.line) c.self.view_is)
