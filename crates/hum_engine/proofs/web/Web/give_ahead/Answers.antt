use Rattle.std.proofs.Common.{◌∙◌, refl}
use Rattle.hum_engine.proofs.Acting.{keeps}
use Rattle.hum_engine.proofs.Answered.{told_own}
use Rattle.hum_engine.proofs.Feeding.{link_at, node_at}
use Rattle.hum_engine.proofs.Nexts.{ahead, ahead_done, ahead_kind, ahead_touches, ahead_turn}
use Rattle.hum_engine.proofs.Readying.{room_stage}
use Rattle.hum_engine.proofs.web.Web.give_ahead.Goals as goal

pub take_ahead-row-requires : goal.take_ahead-row-requires
take_ahead-row-requires g c =
    let at = c.requires.at.holds in
    c.requires.ahead _ (node_at (room_stage at c.requires.room).less at.stand c.index_mut.ensures.value)

pub returns : goal.returns
returns g c =
    let a = ahead c.requires.at.holds c.requires.room c.index_mut.ensures.value c.take_ahead-row.ensures.gives in
    record {
      was_ready = λ s h. (ahead_turn a h.at).ready;
      tells = told_own (ahead_kind a)
          (keeps c.take_ahead-row.new.self (c.take_ahead-row.ensures.kind ∙ a.kind) refl) (ahead_turn a c.requires.at.holds)
          (λ s turn. ahead_done c.take_ahead-row.new.self c.push.new.self a
          (link_at turn.actor.less turn.actor.at.stand c.index_mut-2.ensures.value) c.take_ahead-row.ensures.taken
          c.push.ensures.pushed refl refl turn)
          (λ s actor. ahead_touches a actor);
    }
