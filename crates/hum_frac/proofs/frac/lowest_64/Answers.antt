use Rattle.std.proofs.Common.{◌∙◌, sym, subst, arith}
use native.Mathlib.Nat.{div-le_self}
use Rattle.std.specs.Int.{IsGcd}
use Rattle.hum_frac.proofs.Gcds.{gcd_is, gcd_pos}
use Rattle.hum_frac.proofs.Ratios.{reduced_positive, reduced_lowest}
use Rattle.hum_frac.proofs.frac.lowest_64.Goals as goal

pub invariant_of-result : goal.invariant_of-result
invariant_of-result c =
    let low = c.halved-top.ensures in
    let top = c.requires.top in
    let bottom = c.requires.bottom in
    let less = low.top in
    let fewer = low.bottom in
    record {
      positive = low.positive;
      top_fits = omega (arith, top, less);
      bottom_fits = omega (arith, bottom, fewer);
      lowest =
          subst (IsGcd c.halved-top.result.0 c.halved-top.result.1) (sym c.gcd_odd-common.ensures ∙ c.if-common-eq1.true)
          (gcd_is c.halved-top.result.0 c.halved-top.result.1);
    }

pub nonzero_div-result : goal.nonzero_div-result
nonzero_div-result c = rw c.gcd_odd-common.ensures (gcd_pos c.halved-top.result.0 c.halved-top.result.1 c.halved-top.ensures.positive)

pub nonzero_div-result-2 : goal.nonzero_div-result-2
nonzero_div-result-2 c = rw c.gcd_odd-common.ensures (gcd_pos c.halved-top.result.0 c.halved-top.result.1 c.halved-top.ensures.positive)

pub invariant_of-result-2 : goal.invariant_of-result-2
invariant_of-result-2 c =
    let low = c.halved-top.ensures in
    let top = div-le_self c.halved-top.result.0 c.gcd_odd-common.result in
    let bottom = div-le_self c.halved-top.result.1 c.gcd_odd-common.result in
    let p = c.requires.top in
    let q = c.requires.bottom in
    let less = low.top in
    let fewer = low.bottom in
    record {
      positive =
          rw c.gcd_odd-common.ensures
          (reduced_positive (record { top = c.halved-top.result.0; bottom = c.halved-top.result.1 }) low.positive);
      top_fits = omega (arith, top, p, less);
      bottom_fits = omega (arith, bottom, q, fewer);
      lowest =
          rw c.gcd_odd-common.ensures
          (reduced_lowest (record { top = c.halved-top.result.0; bottom = c.halved-top.result.1 }) low.positive);
    }
