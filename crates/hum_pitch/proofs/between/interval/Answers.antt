use Rattle.std.proofs.Common.{arith}
use Rattle.std.proofs.lemmas.Int.{ints}
use Rattle.hum_pitch.specs.Pitch.{step_number, semitones}
use Rattle.hum_pitch.specs.Given.{spelled}
use Rattle.hum_pitch.proofs.Steps.{less_is, added_back}
use Rattle.hum_pitch.proofs.between.interval.Goals as goal

pub returns-clause-steps : goal.returns-clause-steps
returns-clause-steps c =
    less_is c.step_number.result c.step_number-2.result _ _ (omega (arith, ints), omega (arith, ints))
    (omega (arith, ints), omega (arith, ints)) c.step_number.ensures.exact c.step_number-2.ensures.exact

pub returns-clause-semitones : goal.returns-clause-semitones
returns-clause-semitones c =
    less_is c.semits.result c.semits-2.result _ _ (omega (arith, ints), omega (arith, ints))
    (omega (arith, ints), omega (arith, ints)) c.semits.ensures.exact c.semits-2.ensures.exact

pub returns-clause-apart : goal.returns-clause-apart
returns-clause-apart c = record {
  step = c.args.to.in_range.0;
  steps = added_back _ (step_number (spelled c.args.from)) _ (returns-clause-steps c);
  width = added_back _ (semitones (spelled c.args.from)) _ (returns-clause-semitones c);
}
