use Rattle.hum_frac.proofs.Gcds.{gcd_pos}
use Rattle.hum_frac.proofs.Ratios.{reduced_positive, reduced_lowest}
use Rattle.hum_frac.proofs.frac.lowest.Goals as goal

pub divided-numerator-requires : goal.divided-numerator-requires
divided-numerator-requires c = rw c.gcd-common.ensures (gcd_pos c.args.top c.args.bottom c.requires)

pub divided-denominator-requires : goal.divided-denominator-requires
divided-denominator-requires c = rw c.gcd-common.ensures (gcd_pos c.args.top c.args.bottom c.requires)

pub invariant_of-result : goal.invariant_of-result
invariant_of-result c = record {
  positive = rw (c.divided-denominator.ensures.quotient, c.gcd-common.ensures) (reduced_positive (record { top = c.args.top; bottom = c.args.bottom }) c.requires);
  top_fits = c.if-numerator.true;
  bottom_fits = c.if-denominator.true;
  lowest = rw (c.divided-numerator.ensures.quotient, c.divided-denominator.ensures.quotient, c.gcd-common.ensures)
      (reduced_lowest (record { top = c.args.top; bottom = c.args.bottom }) c.requires);
}
