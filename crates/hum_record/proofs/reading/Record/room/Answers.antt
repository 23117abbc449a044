use Rattle.hum_record.proofs.Ends.{width_counts}
use Rattle.hum_record.proofs.Laws.{text_is}
use Rattle.hum_record.proofs.reading.Record.room.Goals as goal

pub returns : goal.returns
returns c =
    let body = c.self.inside.body.value in
    let most = rw c.deref.ensures at c.room.ensures in
    let wide = width_counts body.text body.ends c.args.self.now c.self.invariant c.self.view_is in
    let text = text_is c.args.self.now body.text (rw c.self.view_is at c.self.invariant.lawful) in
    rw (← text, ← wide) most
