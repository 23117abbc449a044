use Rattle.hum_frac.proofs.Ratios.{reduced_value}
use Rattle.hum_frac.proofs.frac.Frac.new.Goals as goal

pub returns-then-numerator-eq1-clause-value : goal.returns-then-numerator-eq1-clause-value
returns-then-numerator-eq1-clause-value c =
    rw (c.one_over.ensures, c.if-numerator-eq1.true) (reduced_value (record { top = 1; bottom = c.args.denominator }))

pub returns-clause-value : goal.returns-clause-value
returns-clause-value c =
    rw c.lowest_64.ensures (reduced_value (record { top = c.args.numerator; bottom = c.args.denominator }))
