use Rattle.std.proofs.Common.{◌∙◌, sym}
use Rattle.hum_engine.proofs.Answered.{polled_gives}
use Rattle.hum_engine.proofs.Nexts.{ahead_at}
use Rattle.hum_engine.proofs.Readying.{room_stage, source_turn}
use Rattle.hum_engine.proofs.Turning.{kind_at}
use Rattle.hum_engine.proofs.web.Web.give_on.Goals as goal

pub give_ahead-requires-clause-ahead : goal.give_ahead-requires-clause-ahead
give_ahead-requires-clause-ahead g c =
    ahead_at (room_stage c.requires.at.holds c.requires.room) c.index.ensures
    (sym c.gives_ahead.ensures.ahead ∙ c.if-gives_ahead.true)

pub poll-requires-clause-turn : goal.poll-requires-clause-turn
poll-requires-clause-turn g c =
    record {
      scene = c.requires.at.scene;
      holds = source_turn (room_stage c.requires.at.holds c.requires.room)
          (kind_at (room_stage c.requires.at.holds c.requires.room) c.index-2.ensures
          (sym c.is_source.ensures ∙ c.if-is_source.true)) c.index-then-is_source.ensures
          c.is_unset.ensures c.requires.room c.if-is_unset.true;
    }

pub poll-requires-clause-source : goal.poll-requires-clause-source
poll-requires-clause-source g c =
    kind_at (room_stage c.requires.at.holds c.requires.room) c.index-2.ensures
    (sym c.is_source.ensures ∙ c.if-is_source.true)

pub returns-then-is_unset : goal.returns-then-is_unset
returns-then-is_unset g c =
    polled_gives g.R.Source _ c.poll.result (λ s h. (source_turn (room_stage h.at c.requires.room)
    (kind_at (room_stage c.requires.at.holds c.requires.room) c.index-2.ensures
    (sym c.is_source.ensures ∙ c.if-is_source.true)) c.index-then-is_source.ensures
    c.is_unset.ensures c.requires.room c.if-is_unset.true).ready) c.poll.ensures
