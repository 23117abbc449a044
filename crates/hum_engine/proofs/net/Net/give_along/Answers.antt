use Rattle.std.proofs.Common.{arith}
use Rattle.hum_engine.proofs.Choosing.{along_asked, along_filled, along_on, along_over, along_waits, along_few}
use Rattle.hum_engine.proofs.net.Net.give_along.Goals as goal

pub give_on-requires-clause-ask : goal.give_on-requires-clause-ask
give_on-requires-clause-ask g c = (along_asked c.requires.may (omega (arith, c.requires.less))).ask

pub taker-requires : goal.taker-requires
taker-requires g c = along_few c.requires.may (omega (arith, c.requires.less)) c.in-Filled.ensures.0

pub returns-in-Filled : goal.returns-in-Filled
returns-in-Filled g c =
    along_filled c.requires.may (omega (arith, c.requires.less)) c.in-Filled.ensures.0 c.in-Filled.ensures.1 c.taker.ensures

pub returns-in-Failed : goal.returns-in-Failed
returns-in-Failed g c = along_over c.requires.may (omega (arith, c.requires.less)) c.in-Failed.ensures.1

pub returns-in-Waits : goal.returns-in-Waits
returns-in-Waits g c = along_waits c.requires.may (omega (arith, c.requires.less)) c.in-Waits.ensures

pub returns-in-Gave : goal.returns-in-Gave
returns-in-Gave g c = along_on c.requires.may (omega (arith, c.requires.less)) c.in-Gave.ensures

pub returns-in-Took : goal.returns-in-Took
returns-in-Took g c = absurd c.in-Took.ensures

pub returns-in-Heard : goal.returns-in-Heard
returns-in-Heard g c = absurd c.in-Heard.ensures

pub returns-in-Over : goal.returns-in-Over
returns-in-Over g c = absurd c.in-Over.ensures
