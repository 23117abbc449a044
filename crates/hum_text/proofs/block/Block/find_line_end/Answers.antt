use Rattle.std.proofs.Common.{◌≡◌, subst, sym, arith, max}
use Rattle.hum_text.specs.Window.{IsWindow}
use Rattle.hum_text.proofs.WindowLemmas.{none-IsWindow, all-none, first-window}
use Rattle.hum_text.proofs.block.Block.find_line_end.Goals as goal

pub invariant_of-self : goal.invariant_of-self
invariant_of-self c =
    let b = c.self.inside in
    let w = subst (λ m. IsWindow b.bytes.items b.start m b.end) (sym c.max-from.ensures) c.self.invariant.0 in
    let low = w.low in
    let middle = w.middle in
    let all : b.end ≡ max b.end b.start = omega (arith, low, middle) in (
      subst (λ m. IsWindow b.bytes.items b.start m b.end) all
          (none-IsWindow _ _ _ _ w (rw c.deref.ensures.value at c.in-None.ensures)),
      c.self.invariant.1,
    )

pub returns-in-None-clause-found : goal.returns-in-None-clause-found
returns-in-None-clause-found c =
    let b = c.self.inside in
    let w = subst (λ m. IsWindow b.bytes.items b.start m b.end) (sym c.max-from.ensures) c.self.invariant.0 in
    rw (← c.self.view_is) (all-none _ _ _ _ w (rw c.deref.ensures.value at c.in-None.ensures))

pub returns-in-Some-clause-found : goal.returns-in-Some-clause-found
returns-in-Some-clause-found c =
    let b = c.self.inside in
    let w = subst (λ m. IsWindow b.bytes.items b.start m b.end) (sym c.max-from.ensures) c.self.invariant.0 in
    rw (← c.self.view_is) (first-window _ _ _ _ _ w (rw c.deref.ensures.value at c.in-Some.ensures))
