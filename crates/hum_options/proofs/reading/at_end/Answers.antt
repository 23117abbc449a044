use Rattle.std.proofs.Common.{refl, ap}
use Rattle.hum_options.specs.Answers.{Answers, together}
use Rattle.hum_options.proofs.reading.at_end.Goals as goal

pub returns-in-Awaits : goal.returns-in-Awaits
unfolding Answers
returns-in-Awaits c = rw (c.broken-in-Awaits.ensures, c.in-Awaits.is) refl

pub returns-in-Some : goal.returns-in-Some
unfolding Answers
returns-in-Some c =
    let found = rw c.in-Some.is at c.in_ok-options-in-Free.ensures in
    rw c.in-Free.is (ap (together c.args.number) found)

pub returns-in-None : goal.returns-in-None
unfolding Answers
returns-in-None c =
    let found = rw c.in-None.is at c.in_ok-options-in-Free.ensures in
    rw (c.broken.ensures, c.in-Free.is) (ap (together c.args.number) found)
