use Rattle.std.proofs.Common.{◌≤◌, ◌+◌}
use Rattle.hum_record.specs.Room.{rooms_for}
use Rattle.hum_engine.proofs.link.Link.room.Given as goal

abbrev pub invariant-loop-row : goal.invariant-loop-row
invariant-loop-row l = l.room + rooms_for l.row-iterator ≤ rooms_for l.self.waiting.items
