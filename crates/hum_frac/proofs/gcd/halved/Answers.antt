use Rattle.hum_frac.proofs.Twos.{reduced_off, one_odd, bottom_some}
use Rattle.hum_frac.proofs.gcd.halved.Goals as goal

pub returns-clause-value : goal.returns-clause-value
returns-clause-value c = reduced_off c.args.top c.args.bottom c.min-zeros.result c.min-zeros.ensures

pub returns-clause-odd : goal.returns-clause-odd
returns-clause-odd c = one_odd c.args.top c.args.bottom c.min-zeros.result c.min-zeros.ensures c.requires c.ranges.top.fits c.ranges.bottom.fits

pub returns-clause-positive : goal.returns-clause-positive
returns-clause-positive c = bottom_some c.args.top c.args.bottom c.min-zeros.result c.min-zeros.ensures c.requires
