use Rattle.std.proofs.Common.{◌∙◌, refl, sym, arith, inl, inr}
use Rattle.hum_engine.specs.declared.web.Moved.TheVariants as moves
use Rattle.hum_engine.proofs.Advancing.{advanced_twice, may_on, no_fewer}
use Rattle.hum_engine.proofs.Choosing.{left_asked, left_few, left_filled, left_on, left_over, left_rested, left_took}
use Rattle.hum_engine.proofs.Settling.{asked_few, asked_number, asked_stage, came}
use Rattle.hum_engine.proofs.net.Net.step_left.Goals as goal

pub sink_left-requires-clause-sink : goal.sink_left-requires-clause-sink
sink_left-requires-clause-sink g c = c.if-k-count.true ∙ c.count.ensures

pub turn-requires : goal.turn-requires
turn-requires g c = asked_stage (left_asked c.requires).ask (λ here. c.if-k-count.false (here ∙ sym c.count.ensures))

pub overflow_add-result : goal.overflow_add-result
overflow_add-result g c = omega (arith, left_few c.requires)

pub overflow_add-result-in-Filled : goal.overflow_add-result-in-Filled
overflow_add-result-in-Filled g c = omega (arith, left_few c.requires)

pub overflow_add-self : goal.overflow_add-self
overflow_add-self g c = omega (arith, asked_few (left_asked c.requires).ask)

pub overflow_add-self-in-Gave : goal.overflow_add-self-in-Gave
overflow_add-self-in-Gave g c = omega (arith, asked_few (left_asked c.requires).ask)

pub overflow_add-self-in-Heard : goal.overflow_add-self-in-Heard
overflow_add-self-in-Heard g c = omega (arith, asked_few (left_asked c.requires).ask)

pub overflow_add-self-in-Took : goal.overflow_add-self-in-Took
overflow_add-self-in-Took g c = omega (arith, asked_few (left_asked c.requires).ask)

pub overflow_add-self-in-Failed : goal.overflow_add-self-in-Failed
overflow_add-self-in-Failed g c = omega (arith, asked_few (left_asked c.requires).ask)

pub returns-in-Waits-clause-advanced : goal.returns-in-Waits-clause-advanced
returns-in-Waits-clause-advanced g c = left_rested c.requires
    (came g.R.Source (λ here. c.if-k-count.false (here ∙ sym c.count.ensures)) (left_asked c.requires).ask moves.Waits c.in-Waits.ensures refl)

pub returns-in-Waits-clause-closer : goal.returns-in-Waits-clause-closer
returns-in-Waits-clause-closer g c = inr (inr (refl, omega (arith, left_few c.requires)))

pub returns-in-Filled-clause-advanced : goal.returns-in-Filled-clause-advanced
returns-in-Filled-clause-advanced g c =
    let w = came g.R.Source (λ here. c.if-k-count.false (here ∙ sym c.count.ensures)) (left_asked c.requires).ask moves.Filled c.in-Filled.ensures refl in
    left_filled c.requires w.0 w.1

pub returns-in-Gave-clause-advanced : goal.returns-in-Gave-clause-advanced
returns-in-Gave-clause-advanced g c = left_on c.requires
    (came g.R.Source (λ here. c.if-k-count.false (here ∙ sym c.count.ensures)) (left_asked c.requires).ask moves.Gave c.in-Gave.ensures refl)

pub returns-in-Heard-clause-advanced : goal.returns-in-Heard-clause-advanced
returns-in-Heard-clause-advanced g c =
    let w = came g.R.Source (λ here. c.if-k-count.false (here ∙ sym c.count.ensures)) (left_asked c.requires).ask (moves.Heard c.in-Heard.link) c.in-Heard.ensures refl in
    left_on c.requires w.0

pub give_left-requires-clause-may : goal.give_left-requires-clause-may
give_left-requires-clause-may g c =
    let w = came g.R.Source (λ here. c.if-k-count.false (here ∙ sym c.count.ensures)) (left_asked c.requires).ask (moves.Took c.in-Took.link) c.in-Took.ensures refl in
    may_on (left_took c.requires w.0 w.1).stepped c.requires

pub returns-in-Took-clause-advanced : goal.returns-in-Took-clause-advanced
returns-in-Took-clause-advanced g c =
    let w = came g.R.Source (λ here. c.if-k-count.false (here ∙ sym c.count.ensures)) (left_asked c.requires).ask (moves.Took c.in-Took.link) c.in-Took.ensures refl in
    advanced_twice c.requires (left_took c.requires w.0 w.1) c.give_left.ensures

pub returns-in-Took-clause-closer : goal.returns-in-Took-clause-closer
returns-in-Took-clause-closer g c =
    let w = came g.R.Source (λ here. c.if-k-count.false (here ∙ sym c.count.ensures)) (left_asked c.requires).ask (moves.Took c.in-Took.link) c.in-Took.ensures refl in
    let may = may_on (left_took c.requires w.0 w.1).stepped c.requires in
    inr (inl (omega (arith, w.0.gone.turns, no_fewer may c.give_left.ensures)))

pub fail-requires : goal.fail-requires
fail-requires g c =
    let ask = (left_asked c.requires).ask in
    let a = (asked_stage ask (λ here. c.if-k-count.false (here ∙ sym c.count.ensures))).holds in
    omega (arith, a.less, a.at.stand.count, asked_number ask)

pub returns-in-Failed-clause-advanced : goal.returns-in-Failed-clause-advanced
returns-in-Failed-clause-advanced g c =
    let w = came g.R.Source (λ here. c.if-k-count.false (here ∙ sym c.count.ensures)) (left_asked c.requires).ask (moves.Failed c.in-Failed.error) c.in-Failed.ensures c.fail.ensures in
    left_over c.requires w.1
