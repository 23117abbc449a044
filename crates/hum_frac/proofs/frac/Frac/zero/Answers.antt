use Rattle.std.proofs.Common.{arith}
use Rattle.hum_frac.specs.Gcd.{gcd, gcd_in}
use Rattle.hum_frac.proofs.Gcds.{gcd_is}
use Rattle.hum_frac.proofs.frac.Frac.zero.Goals as goal

pub invariant_of-result : goal.invariant_of-result
unfolding gcd gcd_in
invariant_of-result c = record { positive = omega arith; top_fits = omega arith; bottom_fits = omega arith; lowest = gcd_is 0 1 }
