use Rattle.std.proofs.Common.{◌≡◌, ◌≤◌, ℕ, List, ◌+◌, ◌-◌, ◌++◌, length, arith, ◌∙◌, ap, sym, subst, slice_range}
use Rattle.hum_text.specs.Window.{IsWindow}
use Rattle.hum_text.proofs.WindowLemmas.{IsWindow-kept, IsWindow-grown, window-front, grow-window, length-window, max_behind}
use Rattle.hum_text.proofs.block.Block.fill.Goals as goal

pub invariant_of-self-in-Ok-read_at : goal.invariant_of-self-in-Ok-read_at
invariant_of-self-in-Ok-read_at g c =
    let b = c.self.inside in
    let from = c.in-Ok.from in
    let w = subst (λ m. IsWindow b.bytes.items b.start m b.end) (sym c.max.ensures) c.self.invariant.0 in
    let size = c.read_at.new.bytes.ok.0 in
    let end = from + (b.end - b.start) + c.in-Ok-read_at.n in (
      subst (λ m. IsWindow c.read_at.new.bytes.items from m end) (sym (max_behind from (c.max.result - b.start)))
          (IsWindow-grown _ _ _ _ _
          (IsWindow-kept _ _ _ _ _ _ (window-front _ _ _ _ (omega arith) c.read_at.ensures.front ∙ c.in-Ok.ensures.kept)
          (omega (arith, c.in-Ok.ensures.room.1, c.read_at.ensures.len, size)) w)
          (omega arith) (omega (arith, c.in-Ok-read_at.ensures.within, size))),
      omega arith,
    )

pub invariant_of-self-in-Err : goal.invariant_of-self-in-Err
invariant_of-self-in-Err g c =
    let b = c.self.inside in
    let from = c.in-Ok.from in
    let w = subst (λ m. IsWindow b.bytes.items b.start m b.end) (sym c.max.ensures) c.self.invariant.0 in
    let end = from + (b.end - b.start) in (
      subst (λ m. IsWindow c.read_at.new.bytes.items from m end) (sym (max_behind from (c.max.result - b.start)))
          (IsWindow-kept _ _ _ _ _ _ (window-front _ _ _ _ (omega arith) c.read_at.ensures.front ∙ c.in-Ok.ensures.kept)
          (omega (arith, c.in-Ok.ensures.room.1, c.read_at.ensures.len, c.read_at.new.bytes.ok.0)) w),
      omega arith,
    )

pub returns-in-Ok-read_at-clause-ok : goal.returns-in-Ok-read_at-clause-ok
returns-in-Ok-read_at-clause-ok g c =
    let xs = c.read_at.new.bytes.items in
    let end = c.in-Ok.from + (c.self.inside.end - c.self.inside.start) in
    let to = end + c.in-Ok-read_at.n in
    let before : slice_range xs c.in-Ok.from end ≡ c.args.self.now.pending =
    window-front _ _ _ _ (omega arith) c.read_at.ensures.front ∙ c.in-Ok.ensures.kept ∙ ap (λ h. h.pending) c.self.view_is in
    let fits : to ≤ length xs = omega (arith, c.in-Ok-read_at.ensures.within, c.read_at.new.bytes.ok.0) in (
      slice_range xs end to,
      grow-window xs c.in-Ok.from end to (omega arith) (omega arith)
          ∙ ap (λ (zs : List ℕ). zs ++ slice_range xs end to) before,
      length-window xs end to fits ∙ omega arith,
      c.in-Ok-read_at.ensures.read,
      c.in-Ok-read_at.ensures.end,
    )

pub returns-in-Err-clause-err : goal.returns-in-Err-clause-err
returns-in-Err-clause-err g c = (
  window-front _ _ _ _ (omega arith) c.read_at.ensures.front ∙ c.in-Ok.ensures.kept ∙ ap (λ h. h.pending) c.self.view_is,
  c.in-Err.ensures.err,
)

pub read_at-requires : goal.read_at-requires
read_at-requires g c = c.in-Ok.ensures.room.1
