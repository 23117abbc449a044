use Rattle.hum_timebase.proofs.Around.{null_known, null_made, some_wide}
use Rattle.hum_timebase.proofs.Writing.{null_fits}
use Rattle.hum_timebase.proofs.due.make_null.Goals as goal

pub returns-then-nulls-width-clause-made : goal.returns-then-nulls-width-clause-made
returns-then-nulls-width-clause-made c = λ _. null_known c.args.row.now c.args.nulls.now c.width.result c.args.other.now
    c.requires.lawful c.requires.kind c.if-nulls-width.true c.width.ensures c.requires.nulls

pub null_record-requires-clause-some : goal.null_record-requires-clause-some
null_record-requires-clause-some c = rw c.width-2.ensures (some_wide c.args.row.now c.requires.lawful c.requires.kind)

pub null_record-requires-clause-fits : goal.null_record-requires-clause-fits
null_record-requires-clause-fits c = rw c.width-2.ensures (null_fits c.args.row.now c.requires.lawful c.requires.kind)

pub returns-clause-nulls : goal.returns-clause-nulls
returns-clause-nulls c = null_made c.in_ok-made.made c.width-2.result c.width-3.result _ c.in_ok-made.ensures c.width-2.ensures c.width-3.ensures
