use Rattle.hum_options.specs.Answers.{Answers, with_value}
use Rattle.hum_options.specs.Seen.{seen}
use Rattle.hum_options.specs.declared.reading.Turn.TheVariants.{Free}
use Rattle.hum_options.proofs.Turns.{sound, value_fails}
use Rattle.hum_options.proofs.reading.at_value.Goals as goal

pub returns-in_ok-push-in-Ok : goal.returns-in_ok-push-in-Ok
unfolding Answers
returns-in_ok-push-in-Ok c = λ command k n words answer goes.
    let read = c.in-Ok.ensures in
    rw read.0 (sound c.args.number
    (λ v. Answers command n (with_value c.args.given.now c.args.option v) Free words answer)
    (seen c.in-Ok.value) answer read.1 (rw c.in_ok-push-in-Ok.ensures at goes))

pub returns-in-Err : goal.returns-in-Err
returns-in-Err c = λ command k n words. rw c.value_fault.ensures
    (value_fails command n k c.args.number c.args.given.now c.args.option c.args.text.now words c.in-Err.error
    (λ turn. Answers command n c.args.given.now turn words) c.in-Err.ensures)
