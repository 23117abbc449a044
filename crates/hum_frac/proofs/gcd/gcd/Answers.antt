use Rattle.std.proofs.lemmas.Bool.Decides.{nat_tests}
use Rattle.std.proofs.Common.{◌∙◌, sym, arith}
use Rattle.hum_frac.specs.Gcd.{gcd}
use Rattle.hum_frac.proofs.Gcds.{gcd-step, gcd-zero}
use Rattle.hum_frac.proofs.gcd.gcd.Goals as goal

pub loop-y-preserved : goal.loop-y-preserved
loop-y-preserved c = sym (gcd-step c.loop-y.x c.loop-y.y (omega arith)) ∙ c.loop-y.invariant

pub returns-then-y-eq0 : goal.returns-then-y-eq0
returns-then-y-eq0 c = let zero = gcd-zero c.loop-y.x in let same = c.loop-y.invariant in cc

pub returns : goal.returns
returns = grind (arith, nat_tests, gcd-step)
