use Rattle.std.proofs.Common.{◌∙◌, subst, sym}
use Rattle.hum_record.specs.Plain.{HasNoStop}
use Rattle.hum_read.specs.Steps.{IsAhead}
use Rattle.hum_read.proofs.Ahead.{stops_in_front}
use Rattle.hum_read.proofs.scores.ScoreReader.next_longer.Goals as goal

pub parse_longer-requires : goal.parse_longer-requires
parse_longer-requires g c =
    let next = c.ahead-held.ensures.next in
    let pending = subst (λ v. HasNoStop v.lines.pending) (sym c.self.view_is) c.requires.free in
    record { free = λ long. (long, sym (stops_in_front c.ahead-held.result.now next.0 _ next.1 long) ∙ pending.1) }

pub give-requires-clause-ahead : goal.give-requires-clause-ahead
give-requires-clause-ahead g c =
    let ahead = c.ahead-held.ensures in
    subst (λ v. IsAhead v.lines c.in-Some.record) c.self.view_is (record {
      held = c.ahead-held.result.now;
      behind = ahead.next.0;
      next = ahead.next.1;
      line = ahead.line;
      records = ahead.records;
      bytes = ahead.bytes;
      read = c.in-Some.ensures;
    })
