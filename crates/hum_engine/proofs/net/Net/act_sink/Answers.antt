use Rattle.std.proofs.Common.{refl, ap, arith}
use Rattle.hum_engine.proofs.Settling.{asked_at, asked_few, asked_unfailed, asked_web, sink_ready, sunk}
use Rattle.hum_engine.proofs.net.Net.act_sink.Goals as goal

pub last-last-requires : goal.last-last-requires
last-last-requires g c = asked_web c.requires.ask

pub sink_turn-requires-clause-none : goal.sink_turn-requires-clause-none
sink_turn-requires-clause-none g c = asked_unfailed c.requires.ask

pub sink_turn-requires-clause-may : goal.sink_turn-requires-clause-may
sink_turn-requires-clause-may g c = asked_web c.requires.ask

pub returns-in_default : goal.returns-in_default
returns-in_default g c = record {
  idle = λ start s now h none within.
      sink_ready (c.requires.sink) c.in_default.ensures.idle start s now h none;
  same = c.in_default.ensures.same;
}

pub overflow_add-self : goal.overflow_add-self
overflow_add-self g c = omega (arith, asked_few c.requires.ask, ap (λ n. n.turns) c.in-Some.ensures.rest)

pub returns-then-is_over : goal.returns-then-is_over
returns-then-is_over g c =
    let over = rw c.if-is_over.true at c.in-Some.ensures in
    (c.last-last.result, sunk (c.requires.sink) over c.last-last.ensures.last)

pub returns : goal.returns
returns g c =
    let here = c.requires.sink in
    let on = rw c.if-is_over.false at c.in-Some.ensures in
    let st = (asked_at c.requires.ask).stand in (
      sunk here on c.last-last.ensures.last,
      omega (arith, c.last-last.ensures.place, st.as_many, here, st.count, c.requires.ask.running.at.plan.ok.some),
      rw c.last-last.ensures.place (on.room refl),
    )
