use Rattle.std.proofs.Common.{◌∙◌, sym, arith}
use Rattle.hum_engine.proofs.Settling.{asked_few, asked_number, asked_stage, came}
use Rattle.hum_engine.proofs.net.Net.act.Goals as goal

pub act_sink-requires-clause-sink : goal.act_sink-requires-clause-sink
act_sink-requires-clause-sink g c = c.if-k-count.true ∙ c.count.ensures

pub turn-moved-requires : goal.turn-moved-requires
turn-moved-requires g c = asked_stage c.requires (λ here. c.if-k-count.false (here ∙ sym c.count.ensures))

pub settle-requires-clause-number : goal.settle-requires-clause-number
settle-requires-clause-number g c =
    let a = (asked_stage c.requires (λ here. c.if-k-count.false (here ∙ sym c.count.ensures))).holds in
    omega (arith, a.less, a.at.stand.count, asked_number c.requires)

pub settle-requires-clause-few : goal.settle-requires-clause-few
settle-requires-clause-few g c = omega (arith, asked_few c.requires)

pub returns : goal.returns
returns g c =
    came g.R.Source (λ here. c.if-k-count.false (here ∙ sym c.count.ensures)) c.requires c.turn-moved.result c.turn-moved.ensures
    c.settle.ensures
