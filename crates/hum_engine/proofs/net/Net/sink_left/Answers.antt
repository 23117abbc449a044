use Rattle.std.proofs.lemmas.Bool.Decides.{nat_tests}
use Rattle.std.proofs.Common.{refl, arith, inl, inr}
use Rattle.hum_engine.proofs.Advancing.{advanced_twice, may_on, no_fewer}
use Rattle.hum_engine.proofs.Choosing.{left_asked, left_few, left_filled, left_on, left_over, left_rested, left_took}
use Rattle.hum_engine.proofs.net.Net.sink_left.Goals as goal

pub act_sink-requires-clause-ask : goal.act_sink-requires-clause-ask
act_sink-requires-clause-ask g c = (left_asked c.requires.may).ask

pub returns-in-Waits-clause-advanced : goal.returns-in-Waits-clause-advanced
returns-in-Waits-clause-advanced g c = left_rested c.requires.may c.in-Waits.ensures

pub returns-in-Waits-clause-closer : goal.returns-in-Waits-clause-closer
returns-in-Waits-clause-closer g c = grind (arith, nat_tests, left_few c.requires.may)

pub returns-in-Filled-clause-advanced : goal.returns-in-Filled-clause-advanced
returns-in-Filled-clause-advanced g c = left_filled c.requires.may c.in-Filled.ensures.0 c.in-Filled.ensures.1

pub returns-in-Filled-clause-closer : goal.returns-in-Filled-clause-closer
returns-in-Filled-clause-closer g c = inr (inl (omega (arith, c.in-Filled.ensures.0.gone.turns)))

pub returns-in-Gave-clause-advanced : goal.returns-in-Gave-clause-advanced
returns-in-Gave-clause-advanced g c = left_on c.requires.may c.in-Gave.ensures

pub returns-in-Gave-clause-closer : goal.returns-in-Gave-clause-closer
returns-in-Gave-clause-closer g c = inr (inl (omega (arith, c.in-Gave.ensures.gone.turns)))

pub returns-in-Heard-clause-advanced : goal.returns-in-Heard-clause-advanced
returns-in-Heard-clause-advanced g c = left_on c.requires.may c.in-Heard.ensures.0

pub returns-in-Heard-clause-closer : goal.returns-in-Heard-clause-closer
returns-in-Heard-clause-closer g c = inr (inl (omega (arith, c.in-Heard.ensures.0.gone.turns)))

pub give_left-requires-clause-may : goal.give_left-requires-clause-may
give_left-requires-clause-may g c = may_on (left_took c.requires.may c.in-Took.ensures.0 c.in-Took.ensures.1).stepped c.requires.may

pub give_left-requires-clause-room : goal.give_left-requires-clause-room
give_left-requires-clause-room g c = c.in-Took.ensures.2

pub returns-in-Took-clause-advanced : goal.returns-in-Took-clause-advanced
returns-in-Took-clause-advanced g c =
    advanced_twice c.requires.may (left_took c.requires.may c.in-Took.ensures.0 c.in-Took.ensures.1) c.give_left.ensures

pub returns-in-Took-clause-closer : goal.returns-in-Took-clause-closer
returns-in-Took-clause-closer g c =
    let may = may_on (left_took c.requires.may c.in-Took.ensures.0 c.in-Took.ensures.1).stepped c.requires.may in
    inr (inl (omega (arith, c.in-Took.ensures.0.gone.turns, no_fewer may c.give_left.ensures)))

pub returns-in-Over-clause-advanced : goal.returns-in-Over-clause-advanced
returns-in-Over-clause-advanced g c = left_over c.requires.may c.in-Over.ensures.1

pub returns-in-Over-clause-closer : goal.returns-in-Over-clause-closer
returns-in-Over-clause-closer g c = inl refl

pub overflow_add-result : goal.overflow_add-result
overflow_add-result g c = omega (arith, left_few c.requires.may)

pub overflow_add-result-in-Filled : goal.overflow_add-result-in-Filled
overflow_add-result-in-Filled g c = omega (arith, left_few c.requires.may)

pub returns-in-Failed-clause-advanced : goal.returns-in-Failed-clause-advanced
returns-in-Failed-clause-advanced g c = left_over c.requires.may c.in-Failed.ensures.1

pub returns-in-Failed-clause-closer : goal.returns-in-Failed-clause-closer
returns-in-Failed-clause-closer g c = inl refl
