use Rattle.std.proofs.Common.{◌≡◌}
use Rattle.hum_frac.specs.Gcd.{gcd}
use Rattle.hum_frac.proofs.gcd.gcd_64.Given as goal

abbrev pub invariant-loop-y : goal.invariant-loop-y
invariant-loop-y l = gcd l.x l.y ≡ gcd l.fn.a l.fn.b

abbrev pub decreases-loop-y : goal.decreases-loop-y
decreases-loop-y l = l.y
