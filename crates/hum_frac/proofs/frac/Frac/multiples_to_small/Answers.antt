use Rattle.std.proofs.lemmas.Bool.Decides.{nat_tests}
use Rattle.std.proofs.Common.{◌*◌, arith}
use native.Mathlib.Nat.{div-le_self}
use Rattle.hum_frac.proofs.Ratios.{are_between, small_product}
use Rattle.hum_frac.proofs.frac.Frac.multiples_to_small.Goals as goal

pub returns-clause-between : goal.returns-clause-between
returns-clause-between c =
    let count = rw (c.divided_64-passed.ensures.quotient, c.divided_64-end.ensures.quotient) at c.saturating_sub.ensures in
    let some = rw (← c.unit.view_is) at c.requires.positive in
    rw (← c.self.view_is, ← c.other.view_is, ← c.unit.view_is) (are_between _ _ _ _ c.self.invariant.positive c.other.invariant.positive some count)

pub overflow_mul-whole : goal.overflow_mul-whole
overflow_mul-whole = grind (arith, nat_tests)

pub overflow_mul-self-inside : goal.overflow_mul-self-inside
overflow_mul-self-inside = grind (arith, nat_tests, small_product)

pub overflow_mul-after : goal.overflow_mul-after
overflow_mul-after c =
    let bound = small_product _ _ (rw (← c.other.view_is) at c.requires.other_bottom) (rw (← c.unit.view_is) at c.requires.unit_top) in omega (arith, bound)

pub overflow_mul-other-inside : goal.overflow_mul-other-inside
overflow_mul-other-inside c =
    let bound = small_product _ _ (rw (← c.other.view_is) at c.requires.other_top) (rw (← c.unit.view_is) at c.requires.unit_bottom) in omega (arith, bound)

pub overflow_add-other-inside : goal.overflow_add-other-inside
overflow_add-other-inside c =
    let left = small_product _ _ (rw (← c.other.view_is) at c.requires.other_top) (rw (← c.unit.view_is) at c.requires.unit_bottom) in
    let right = small_product _ _ (rw (← c.other.view_is) at c.requires.other_bottom) (rw (← c.unit.view_is) at c.requires.unit_top) in
    omega (arith, left, right)

pub overflow_add-passed : goal.overflow_add-passed
overflow_add-passed c =
    let bound = small_product _ _ (rw (← c.self.view_is) at c.requires.top) (rw (← c.unit.view_is) at c.requires.unit_bottom) in
    let less = div-le_self (c.self.inside.numerator * c.unit.inside.denominator) (c.self.inside.denominator * c.unit.inside.numerator) in
    let is = c.divided_64-passed.ensures.quotient in
    omega (arith, bound, less, is)

pub returns-clause-count : goal.returns-clause-count
returns-clause-count c =
    let count = rw (c.divided_64-passed.ensures.quotient, c.divided_64-end.ensures.quotient) at c.saturating_sub.ensures in
    rw (← c.self.view_is, ← c.other.view_is, ← c.unit.view_is) count
