use Rattle.std.proofs.Common.{arith}
use Rattle.hum_engine.proofs.Settling.{asked_few, asked_number, asked_room, asked_web, given_on}
use Rattle.hum_engine.proofs.net.Net.give_on.Goals as goal

pub give_on-moved-requires-clause-at : goal.give_on-moved-requires-clause-at
give_on-moved-requires-clause-at g c = asked_web c.requires.ask

pub settle-requires-clause-number : goal.settle-requires-clause-number
settle-requires-clause-number g c =
    omega (arith, asked_room c.requires.ask c.requires.room, asked_number c.requires.ask)

pub settle-requires-clause-few : goal.settle-requires-clause-few
settle-requires-clause-few g c = omega (arith, asked_few c.requires.ask)

pub returns : goal.returns
returns g c =
    given_on g.R.Source (λ here. omega (arith, asked_room c.requires.ask c.requires.room, here)) c.requires.ask
    c.give_on-moved.result c.give_on-moved.ensures c.settle.ensures
