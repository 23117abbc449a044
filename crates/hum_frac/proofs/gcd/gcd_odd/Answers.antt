use Rattle.std.proofs.Common.{◌∙◌, sym, ap}
use Rattle.hum_frac.specs.Gcd.{gcd}
use Rattle.hum_frac.proofs.Twos.{gcd_odd_part, gcd_one}
use Rattle.hum_frac.proofs.gcd.gcd_odd.Goals as goal

pub returns-then-odd-eq1 : goal.returns-then-odd-eq1
returns-then-odd-eq1 c =
    sym (gcd_one c.args.top) ∙ ap (gcd c.args.top) (sym c.if-odd-eq1.true) ∙ gcd_odd_part c.args.top c.args.bottom c.requires.odd

pub returns-else-odd-eq1 : goal.returns-else-odd-eq1
returns-else-odd-eq1 c = c.gcd_64.ensures ∙ gcd_odd_part c.args.top c.args.bottom c.requires.odd
