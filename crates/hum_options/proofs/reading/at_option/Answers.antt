use Rattle.std.proofs.Common.{refl}
use Rattle.hum_options.specs.Answers.{Answers}
use Rattle.hum_options.proofs.reading.at_option.Goals as goal

pub returns-in_default : goal.returns-in_default
unfolding Answers
returns-in_default c = λ n words. rw (c.broken.ensures, ← c.in_default.ensures) refl

pub returns-in_ok-push : goal.returns-in_ok-push
unfolding Answers
returns-in_ok-push c = λ n words answer goes.
    rw (← c.in-Some.ensures, ← c.if-is_alone.ensures) (rw c.in_ok-push.ensures at goes)

pub returns-else-is_alone : goal.returns-else-is_alone
unfolding Answers
returns-else-is_alone c = λ n words answer goes. rw (← c.in-Some.ensures, ← c.if-is_alone.ensures) goes
