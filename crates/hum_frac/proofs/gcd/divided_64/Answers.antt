use Rattle.hum_frac.proofs.Twos.{divided_by_bit, masked_by_bit}
use Rattle.hum_frac.proofs.gcd.divided_64.Goals as goal

pub returns-then-b-zeros-eq1-clause-quotient : goal.returns-then-b-zeros-eq1-clause-quotient
returns-then-b-zeros-eq1-clause-quotient c = divided_by_bit c.args.a c.args.b c.if-b-zeros-eq1.true

pub returns-then-b-zeros-eq1-clause-remainder : goal.returns-then-b-zeros-eq1-clause-remainder
returns-then-b-zeros-eq1-clause-remainder c = masked_by_bit c.args.a c.args.b c.if-b-zeros-eq1.true
