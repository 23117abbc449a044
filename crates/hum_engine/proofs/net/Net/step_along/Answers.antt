use Rattle.std.proofs.lemmas.Bool.Decides.{nat_tests}
use Rattle.std.proofs.Common.{refl, arith, inl, inr}
use Rattle.hum_engine.proofs.Advancing.{advanced_twice, may_then, no_fewer}
use Rattle.hum_engine.proofs.Choosing.{along_asked, along_closer, along_few, along_filled, along_on, along_over, along_rested}
use Rattle.hum_engine.proofs.Choosing.{along_within}
use Rattle.hum_engine.proofs.net.Net.step_along.Goals as goal

pub act-requires : goal.act-requires
act-requires g c = (along_asked c.requires.may (omega (arith, c.requires.less))).ask

pub taker-requires : goal.taker-requires
taker-requires g c = along_within c.requires.may c.in-Waits.ensures c.requires.less

pub returns-in-Waits-clause-advanced : goal.returns-in-Waits-clause-advanced
returns-in-Waits-clause-advanced g c =
    along_rested c.requires.may c.in-Waits.ensures c.taker.ensures

pub returns-in-Waits-clause-closer : goal.returns-in-Waits-clause-closer
returns-in-Waits-clause-closer g c =
    grind (arith, nat_tests, along_closer c.requires.may c.in-Waits.ensures c.taker.ensures)

pub taker-requires-in-Filled : goal.taker-requires-in-Filled
taker-requires-in-Filled g c = along_few c.requires.may (omega (arith, c.requires.less)) c.in-Filled.ensures.0

pub returns-in-Filled-clause-advanced : goal.returns-in-Filled-clause-advanced
returns-in-Filled-clause-advanced g c =
    along_filled c.requires.may (omega (arith, c.requires.less)) c.in-Filled.ensures.0 c.in-Filled.ensures.1 c.taker-in-Filled.ensures

pub returns-in-Filled-clause-closer : goal.returns-in-Filled-clause-closer
returns-in-Filled-clause-closer g c = inr (inl (omega (arith, c.in-Filled.ensures.0.gone.turns)))

pub returns-in-Gave-clause-advanced : goal.returns-in-Gave-clause-advanced
returns-in-Gave-clause-advanced g c = along_on c.requires.may (omega (arith, c.requires.less)) c.in-Gave.ensures

pub returns-in-Gave-clause-closer : goal.returns-in-Gave-clause-closer
returns-in-Gave-clause-closer g c = inr (inl (omega (arith, c.in-Gave.ensures.gone.turns)))

pub returns-in-Heard-clause-advanced : goal.returns-in-Heard-clause-advanced
returns-in-Heard-clause-advanced g c = along_on c.requires.may (omega (arith, c.requires.less)) c.in-Heard.ensures.0

pub returns-in-Heard-clause-closer : goal.returns-in-Heard-clause-closer
returns-in-Heard-clause-closer g c = inr (inl (omega (arith, c.in-Heard.ensures.0.gone.turns)))

pub give_along-requires-clause-may : goal.give_along-requires-clause-may
give_along-requires-clause-may g c =
    may_then c.requires.may (along_on c.requires.may (omega (arith, c.requires.less)) c.in-Took.ensures.0)

pub give_along-requires-clause-less : goal.give_along-requires-clause-less
give_along-requires-clause-less g c = omega (arith, c.requires.less, c.in-Took.ensures.1)

pub give_along-requires-clause-room : goal.give_along-requires-clause-room
give_along-requires-clause-room g c = c.in-Took.ensures.2

pub returns-in-Took-clause-advanced : goal.returns-in-Took-clause-advanced
returns-in-Took-clause-advanced g c =
    advanced_twice c.requires.may (along_on c.requires.may (omega (arith, c.requires.less)) c.in-Took.ensures.0) c.give_along.ensures

pub returns-in-Took-clause-closer : goal.returns-in-Took-clause-closer
returns-in-Took-clause-closer g c =
    let may = may_then c.requires.may (along_on c.requires.may (omega (arith, c.requires.less)) c.in-Took.ensures.0) in
    inr (inl (omega (arith, c.in-Took.ensures.0.gone.turns, no_fewer may c.give_along.ensures)))

pub returns-in-Failed-clause-advanced : goal.returns-in-Failed-clause-advanced
returns-in-Failed-clause-advanced g c = along_over c.requires.may (omega (arith, c.requires.less)) c.in-Failed.ensures.1

pub returns-in-Failed-clause-closer : goal.returns-in-Failed-clause-closer
returns-in-Failed-clause-closer g c = inl refl

pub returns-in-Over-clause-advanced : goal.returns-in-Over-clause-advanced
returns-in-Over-clause-advanced g c = along_over c.requires.may (omega (arith, c.requires.less)) c.in-Over.ensures.1

pub returns-in-Over-clause-closer : goal.returns-in-Over-clause-closer
returns-in-Over-clause-closer g c = inl refl
