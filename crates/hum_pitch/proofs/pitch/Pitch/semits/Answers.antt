use Rattle.std.proofs.Common.{arith, ap}
use Rattle.std.proofs.lemmas.Int.{ints}
use Rattle.hum_pitch.specs.Pitch.{natural}
use Rattle.hum_pitch.proofs.pitch.Pitch.semits.Goals as goal

pub returns-clause-exact : goal.returns-clause-exact
returns-clause-exact c = omega (arith, ints, ap natural c.from-2.ensures)
