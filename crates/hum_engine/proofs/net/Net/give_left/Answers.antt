use Rattle.hum_engine.proofs.Advancing.{advanced_twice, may_then}
use Rattle.hum_engine.proofs.Choosing.{beside_asked, beside_filled, beside_gave, beside_less, beside_over, beside_waits}
use Rattle.hum_engine.proofs.net.Net.give_left.Goals as goal

pub give_on-requires-clause-ask : goal.give_on-requires-clause-ask
give_on-requires-clause-ask g c = (beside_asked c.requires.may).ask

pub returns-in-Filled : goal.returns-in-Filled
returns-in-Filled g c = beside_filled c.requires.may c.in-Filled.ensures.0 c.in-Filled.ensures.1

pub returns-in-Failed : goal.returns-in-Failed
returns-in-Failed g c = beside_over c.requires.may c.in-Failed.ensures.1

pub go_along-requires-clause-may : goal.go_along-requires-clause-may
go_along-requires-clause-may g c = may_then {reader = g.R.Source} c.requires.may (beside_waits c.requires.may c.in-Waits.ensures)

pub go_along-requires-clause-less : goal.go_along-requires-clause-less
go_along-requires-clause-less g c = beside_less c.requires.may

pub returns-in-Waits : goal.returns-in-Waits
returns-in-Waits g c = advanced_twice c.requires.may (beside_waits c.requires.may c.in-Waits.ensures) c.go_along.ensures

pub go_along-requires-in-Gave-clause-may : goal.go_along-requires-in-Gave-clause-may
go_along-requires-in-Gave-clause-may g c = may_then c.requires.may (beside_gave c.requires.may c.in-Gave.ensures)

pub go_along-requires-in-Gave-clause-less : goal.go_along-requires-in-Gave-clause-less
go_along-requires-in-Gave-clause-less g c = beside_less c.requires.may

pub returns-in-Gave : goal.returns-in-Gave
returns-in-Gave g c = advanced_twice c.requires.may (beside_gave c.requires.may c.in-Gave.ensures) c.go_along-in-Gave.ensures

pub go_along-requires-in-Took-clause-may : goal.go_along-requires-in-Took-clause-may
go_along-requires-in-Took-clause-may g c = absurd c.in-Took.ensures

pub go_along-requires-in-Took-clause-less : goal.go_along-requires-in-Took-clause-less
go_along-requires-in-Took-clause-less g c = absurd c.in-Took.ensures

pub returns-in-Took : goal.returns-in-Took
returns-in-Took g c = absurd c.in-Took.ensures

pub go_along-requires-in-Heard-clause-may : goal.go_along-requires-in-Heard-clause-may
go_along-requires-in-Heard-clause-may g c = absurd c.in-Heard.ensures

pub go_along-requires-in-Heard-clause-less : goal.go_along-requires-in-Heard-clause-less
go_along-requires-in-Heard-clause-less g c = absurd c.in-Heard.ensures

pub returns-in-Heard : goal.returns-in-Heard
returns-in-Heard g c = absurd c.in-Heard.ensures

pub returns-in-Over : goal.returns-in-Over
returns-in-Over g c = absurd c.in-Over.ensures
