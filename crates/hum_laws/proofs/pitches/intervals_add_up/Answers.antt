use Rattle.std.proofs.Common.{arith}
use Rattle.std.proofs.lemmas.Int.{ints}
use Rattle.hum_laws.proofs.pitches.intervals_add_up.Goals as goal

pub returns-clause-steps : goal.returns-clause-steps
returns-clause-steps c = omega (arith, ints, c.interval.ensures.steps, c.interval-2.ensures.steps, c.interval-3.ensures.steps)

pub returns-clause-semitones : goal.returns-clause-semitones
returns-clause-semitones c = omega (arith, ints, c.interval.ensures.semitones, c.interval-2.ensures.semitones, c.interval-3.ensures.semitones)
