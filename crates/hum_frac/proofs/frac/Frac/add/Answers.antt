use Rattle.std.proofs.Common.{arith}
use Rattle.hum_frac.specs.Ratio.{sum}
use Rattle.hum_frac.proofs.Ratios.{sum_value, sum_none, reduced_value, product_fits}
use Rattle.hum_frac.proofs.frac.Frac.add.Goals as goal

pub returns-clause-value : goal.returns-clause-value
returns-clause-value c = rw (← c.self.view_is, ← c.other.view_is) (sum_value _ _ c.lowest.result c.lowest.ensures.reduced)

pub returns-clause-none : goal.returns-clause-none
returns-clause-none c = rw (← c.self.view_is, ← c.other.view_is)
    (sum_none _ _ c.lowest.result c.self.invariant.positive c.other.invariant.positive c.lowest.ensures.refused)

pub returns-then-is_small-2-clause-value : goal.returns-then-is_small-2-clause-value
returns-then-is_small-2-clause-value c = rw c.add_small.ensures (reduced_value (sum c.args.self c.args.other))

pub overflow_add-a : goal.overflow_add-a
overflow_add-a c =
    let left = product_fits _ _ c.self.invariant.top_fits c.other.invariant.bottom_fits in
    let right = product_fits _ _ c.other.invariant.top_fits c.self.invariant.bottom_fits in
    omega (arith, left, right)
