use Rattle.std.proofs.Common.{rules}
use Rattle.hum_pitch.specs.Pitch.{away}
use Rattle.hum_pitch.specs.Given.{spelled, Answers}
use Rattle.hum_pitch.proofs.Answering.{apart, none}
use Rattle.hum_pitch.proofs.pitch.Pitch.transpose.Goals as goal

pub returns-clause-apart : goal.returns-clause-apart
returns-clause-apart c =
    let e : Answers (away c.args.steps c.args.semitones (spelled c.args.self)) c.spelled.result = search rules in
    apart c.args.steps c.args.semitones (spelled c.args.self) c.spelled.result e

pub returns-clause-none : goal.returns-clause-none
returns-clause-none c =
    let e : Answers (away c.args.steps c.args.semitones (spelled c.args.self)) c.spelled.result = search rules in
    none c.args.steps c.args.semitones (spelled c.args.self) c.spelled.result e
