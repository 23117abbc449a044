use Rattle.std.specs.Prelude.{◌≤◌, map}
use Rattle.hum_record.specs.Room.{rooms_for}
use Rattle.hum_context.proofs.memory.CollectingLooksAhead.room.Given as goal

abbrev pub invariant-loop-kept : goal.invariant-loop-kept
invariant-loop-kept l = l.room ≤ rooms_for (map (λ kept. kept.row) (map (λ kept. kept.now) l.yielded))
