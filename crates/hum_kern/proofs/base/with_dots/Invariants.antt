use Rattle.std.proofs.Common.{◌≡◌}
use Rattle.hum_kern.proofs.Dots.{shared}
use Rattle.hum_kern.proofs.base.with_dots.Given as goal

abbrev pub invariant-loop-j : goal.invariant-loop-j
invariant-loop-j l = record {
  numerator : l.numerator ≡ (shared (record { top = l.top; bottom = l.bottom })
      l.j).top;
  denominator : l.denominator ≡ (shared (record { top = l.top; bottom = l.bottom }) l.j).bottom;
}
