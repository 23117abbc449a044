use Rattle.hum_frac.proofs.Ratios.{multiple_test}
use Rattle.hum_frac.proofs.frac.Frac.is_multiple.Goals as goal

pub returns-clause-multiple : goal.returns-clause-multiple
returns-clause-multiple c = rw (c.divided-remainder.ensures.remainder, ← c.self.view_is, ← c.unit.view_is) (multiple_test _ _)
