use Rattle.std.specs.Prelude.{◌≤◌, List, map}
use Rattle.hum_score.specs.Row.{Row}
use Rattle.hum_record.specs.Room.{rooms_for}
use Rattle.hum_yank.specs.Memory.{AllAreOf}
use Rattle.hum_yank.proofs.memory.PassageMemoryLooksAhead.room.Given as goal

abbrev pub invariant-loop-kept : goal.invariant-loop-kept
invariant-loop-kept l = (rows : List Row) → AllAreOf rows (map (λ kept. kept.now) l.yielded) → l.room ≤ rooms_for rows
