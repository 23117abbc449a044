use Rattle.hum_record.proofs.Rooms.{one_more}
use Rattle.hum_stage.proofs.due.VecDequeRecordDueRecords.room.Goals as goal

pub loop-row-preserved : goal.loop-row-preserved
loop-row-preserved c =
    one_more c.loop-row.yielded c.in-Some.row c.loop-row.room _ _ c.loop-row.invariant c.room.ensures.most c.saturating_add-room.ensures
