use Rattle.std.proofs.Common.{◌∙◌, refl, ap, rules}
use Rattle.hum_turns.specs.Plan.{last}
use Rattle.hum_engine.specs.Scene.{plan_of}
use Rattle.hum_engine.proofs.Appending.{keeps_appends}
use Rattle.hum_engine.proofs.Sending.{sent_net, sent_record, sent_end, not_heard}
use Rattle.hum_engine.proofs.Tried.{row_of, row_next}
use Rattle.hum_engine.proofs.net.Net.sink_turn.Goals as goal

pub returns-in-Record : goal.returns-in-Record
returns-in-Record g c = record {
  was_ready = search rules;
  went = λ s h.
      rw (sent_net c.requires.none c.send.ensures) (sent_record (g.W.Sink.flushed c.send.new.self.sink) c.send.result
      c.send.ensures (c.in-Record.ensures.done refl s h.at) (ap row_of (c.in-Record.ensures.taken s h.at) ∙ row_next _ _)
      (not_heard (s.links (last (plan_of s))) h.some));
  asked = search rules;
  flushes = search rules;
  flushed_last = search rules;
  marked = search rules;
  unread = search rules;
  room = search rules;
  shows = search rules;
  rest = search rules;
}

pub returns-in-Ok : goal.returns-in-Ok
returns-in-Ok g c = record {
  was_ready = search rules;
  went = λ s h.
      rw c.requires.none (sent_end s (c.in-End.ensures.done refl s h.at)
      (ap row_of (c.in-End.ensures.taken s h.at) ∙ row_next _ _) h.some (keeps_appends _ _ c.in-Ok.ensures.bytes)
      c.in-Ok.ensures.flushed);
  asked = search rules;
  flushes = search rules;
  flushed_last = search rules;
  marked = search rules;
  unread = search rules;
  room = search rules;
  shows = search rules;
  rest = search rules;
}
