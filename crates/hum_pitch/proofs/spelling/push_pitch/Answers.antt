use Rattle.std.proofs.Common.{append_assoc}
use Rattle.std.proofs.lemmas.Result.{on_ok_weaker}
use Rattle.hum_pitch.specs.Given.{spelled}
use Rattle.hum_pitch.proofs.Reading.{read_again}
use Rattle.hum_pitch.proofs.spelling.push_pitch.Goals as goal

pub returns-clause-written : goal.returns-clause-written
returns-clause-written c =
    let text = rw (c.in_ok-push_repeated.ensures, c.letters.ensures.exact, c.accidentals.ensures.exact) at c.push_repeated-2.ensures in
    rw (← append_assoc c.args.text.now.items _ _) text

pub returns-clause-read : goal.returns-clause-read
returns-clause-read c =
    on_ok_weaker _ (λ _. read_again (spelled c.args.pitch) c.args.pitch.in_range.0) c.push_repeated-2.ensures
