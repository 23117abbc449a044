use Rattle.std.proofs.Common.{◌∙◌, refl, sym}
use Rattle.hum_engine.proofs.Nexts.{ahead_at, ahead_about}
use Rattle.hum_engine.proofs.Readying.{room_gives}
use Rattle.hum_engine.proofs.Turning.{stage_ready}
use Rattle.hum_engine.proofs.web.Web.turn.Goals as goal

pub returns-then-not-has_room : goal.returns-then-not-has_room
returns-then-not-has_room g c = record {
  idle = λ s h.
      let a = ahead_about h c.index.ensures (c.gives_ahead.ensures.gives c.if-not-gives_ahead.false) in
      stage_ready a ∙ sym (room_gives a c.index-2.ensures c.has_room.ensures.has_room) ∙ c.if-not-has_room.true;
  same = refl;
}

pub give_ahead-requires-clause-at : goal.give_ahead-requires-clause-at
give_ahead-requires-clause-at g c = record { scene = c.requires.scene; holds = c.requires.holds.at }

pub give_ahead-requires-clause-ahead : goal.give_ahead-requires-clause-ahead
give_ahead-requires-clause-ahead g c =
    ahead_at c.requires.holds c.index.ensures (sym c.gives_ahead.ensures.ahead ∙ c.if-not-gives_ahead.false)
