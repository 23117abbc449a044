use Rattle.std.specs.Prelude.{◌≤◌, map}
use Rattle.hum_record.specs.Room.{rooms_for}
use Rattle.hum_stage.proofs.due.VecDequeRecordDueRecords.room.Given as goal

abbrev pub invariant-loop-row : goal.invariant-loop-row
invariant-loop-row l = l.room ≤ rooms_for (map (λ row. row.now) l.yielded)
