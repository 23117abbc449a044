use Rattle.std.proofs.Common.{◌⊎◌, ◌<◌, inl, inr, arith}
use Rattle.std.proofs.lemmas.Bool.{ltb-true}
use Rattle.hum_timebase.proofs.Around.{alone_room, around_room}
use Rattle.hum_timebase.proofs.due.AroundDueRecords.room.Goals as goal
use Rattle.hum_timebase.proofs.due.AroundDueRecords.room.Goals.{then-self-gt0, else-self-gt0}

pub returns-then-self-gt0-2 : goal.returns-then-self-gt0-2
returns-then-self-gt0-2 c =
    let due = c.self.inside in
    let some : (0 < due.before) ⊎ (0 < due.after) = elim c.if-self-gt0.branch [
      | then-self-gt0 w ↦ inl w.if-self-gt0.true
      | else-self-gt0 w ↦ inr (ltb-true _ _ (rw w.value-is at c.if-self-gt0-2.true))
    ] in
    let all = around_room due.before due.after due.single due.other some in
    let single = c.room-single.ensures in
    let other = c.room.ensures in
    let sum = c.saturating_add.ensures in
    rw (← c.self.view_is) (omega (arith, all, single, other, sum))

pub returns-else-self-gt0-2 : goal.returns-else-self-gt0-2
returns-else-self-gt0-2 c =
    let due = c.self.inside in
    let all = alone_room due.before due.after due.single due.other in
    let single = c.room-single.ensures in
    rw (← c.self.view_is) (omega (arith, all, single))
