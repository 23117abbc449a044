-- A timed record that comes at the least end after the last one.
use Rattle.std.proofs.Common.{◌≡◌, ◌∙◌, ℕ, zero, suc, ◌+◌, ◌-◌, ◌*◌, ◌/◌, ◌<◌, ◌≤◌, sym, ap, arith}
use Rattle.std.specs.Prelude.{Option, Some}
use Rattle.std.proofs.lemmas.Bool.Decides.{nat_tests}
use native.Mathlib.Nat.{div-lt_iff_lt-mul, add-mul, one-mul, div-zero}
use Rattle.hum_frac.specs.Ratio.{Ratio}
use Rattle.hum_timebase.specs.Timebase.{multiples_from, count_before}

-- what is rounded up is at most one more than what is rounded down
rounded : (x y : ℕ) → (x + (y - 1)) / y ≤ x / y + 1
rounded x zero = let none = div-zero (x + (0 - 1)) in omega (arith, none)
rounded x (suc y) =
    let below : x < (x / suc y + 1) * suc y = (div-lt_iff_lt-mul {k = suc y} {x = x} {y = x / suc y + 1} (omega arith)).0 (omega arith) in
    let next : (x / suc y + 1 + 1) * suc y ≡ (x / suc y + 1) * suc y + suc y =
    add-mul (x / suc y + 1) 1 (suc y) ∙ ap (λ (k : ℕ). (x / suc y + 1) * suc y + k) (one-mul (suc y)) in
    let most : (x + (suc y - 1)) / suc y < x / suc y + 1 + 1 =
    (div-lt_iff_lt-mul {k = suc y} {x = x + (suc y - 1)} {y = x / suc y + 1 + 1} (omega arith)).1 (omega (arith, below, next)) in
    omega (arith, most)

-- no multiples stand from a time to the same time
pub none_from : (time step : Ratio) → multiples_from time time step ≡ 0
none_from = grind (arith, nat_tests, rounded)

pub none_before : (step : Ratio) (next : Option Ratio) (time : Ratio) → next ≡ Some time → 0 ≡ count_before step next time
none_before step next time at = sym (ap (λ end. count_before step end time) at ∙ none_from time step)
