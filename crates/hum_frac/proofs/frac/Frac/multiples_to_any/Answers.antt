use Rattle.std.proofs.Common.{◌+◌, ◌-◌, ◌*◌, sym, arith}
use native.Mathlib.Nat.{div-le_self, mul-pos}
use Rattle.hum_frac.proofs.Ratios.{are_between, product_fits}
use Rattle.hum_frac.proofs.Order.{none_between}
use Rattle.hum_frac.proofs.frac.Frac.multiples_to_any.Goals as goal

pub returns-then-a-d-clause-count : goal.returns-then-a-d-clause-count
returns-then-a-d-clause-count c =
    let late = c.if-a-d.true in
    rw (← c.self.view_is, ← c.other.view_is)
    (sym (none_between _ _ c.args.unit c.self.invariant.positive c.other.invariant.positive c.requires (λ h. omega (arith, h, late))))

pub returns-then-a-d-clause-between : goal.returns-then-a-d-clause-between
returns-then-a-d-clause-between c =
    let late = c.if-a-d.true in
    let none = none_between _ _ c.args.unit c.self.invariant.positive c.other.invariant.positive c.requires (λ h. omega (arith, h, late)) in
    rw (← c.self.view_is, ← c.other.view_is)
    (are_between _ _ c.args.unit 0 c.self.invariant.positive c.other.invariant.positive c.requires (sym none))

pub returns-clause-between : goal.returns-clause-between
returns-clause-between c =
    let count = rw (c.divided-passed.ensures.quotient, c.divided-end.ensures.quotient) at c.saturating_sub.ensures in
    let some = rw (← c.unit.view_is) at c.requires in
    rw (← c.self.view_is, ← c.other.view_is, ← c.unit.view_is) (are_between _ _ _ _ c.self.invariant.positive c.other.invariant.positive some count)

pub overflow_mul-reach : goal.overflow_mul-reach
overflow_mul-reach c =
    let bound = product_fits _ _ c.other.invariant.top_fits c.unit.invariant.bottom_fits in omega (arith, bound)

pub overflow_sub-reach : goal.overflow_sub-reach
overflow_sub-reach c = mul-pos c.other.invariant.positive (rw (← c.unit.view_is) at c.requires)

pub overflow_add-reach : goal.overflow_add-reach
overflow_add-reach c =
    let left = product_fits _ _ c.other.invariant.top_fits c.unit.invariant.bottom_fits in
    let right = product_fits _ _ c.other.invariant.bottom_fits c.unit.invariant.top_fits in
    omega (arith, left, right)

pub overflow_add-passed : goal.overflow_add-passed
overflow_add-passed c =
    let bound = product_fits _ _ c.self.invariant.top_fits c.unit.invariant.bottom_fits in
    let less = div-le_self (c.self.inside.numerator * c.unit.inside.denominator) (c.self.inside.denominator * c.unit.inside.numerator) in
    let is = c.divided-passed.ensures.quotient in
    omega (arith, bound, less, is)

pub returns-clause-count : goal.returns-clause-count
returns-clause-count c =
    let count = rw (c.divided-passed.ensures.quotient, c.divided-end.ensures.quotient) at c.saturating_sub.ensures in
    rw (← c.self.view_is, ← c.other.view_is, ← c.unit.view_is) count

pub returns-clause-below : goal.returns-clause-below
returns-clause-below c =
    let left = product_fits _ _ c.other.invariant.top_fits c.unit.invariant.bottom_fits in
    let right = product_fits _ _ c.other.invariant.bottom_fits c.unit.invariant.top_fits in
    let after = c.other.inside.denominator * c.unit.inside.numerator in
    let less = div-le_self (c.other.inside.numerator * c.unit.inside.denominator + (after - 1)) after in
    let end = c.divided-end.ensures.quotient in
    let count = c.saturating_sub.ensures in
    omega (arith, left, right, less, end, count)
