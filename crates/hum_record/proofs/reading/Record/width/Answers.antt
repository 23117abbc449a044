use Rattle.std.proofs.Common.{◌∙◌}
use Rattle.hum_record.proofs.Ends.{width_counts}
use Rattle.hum_record.proofs.reading.Record.width.Goals as goal

pub returns : goal.returns
returns c =
    (rw c.deref.ensures at c.width.ensures)
    ∙ width_counts c.self.inside.body.value.text c.self.inside.body.value.ends c.args.self.now c.self.invariant c.self.view_is
