use Rattle.std.proofs.Common.{subst}
use Rattle.hum_read.specs.Steps.{IsAhead}
use Rattle.hum_read.proofs.scores.ScoreReader.next_long.Goals as goal

pub give-requires-clause-ahead : goal.give-requires-clause-ahead
give-requires-clause-ahead g c =
    let ahead = c.ahead.ensures in
    subst (λ v. IsAhead v.lines c.in-Some.record) c.self.view_is (record {
      held = c.ahead.result.now;
      behind = ahead.next.0;
      next = ahead.next.1;
      line = ahead.line;
      records = ahead.records;
      bytes = ahead.bytes;
      read = c.in-Some.ensures;
    })
