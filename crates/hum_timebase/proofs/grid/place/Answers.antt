use Rattle.std.proofs.Common.{refl}
use Rattle.hum_score.specs.Row.{tokens_of}
use Rattle.hum_stage.proofs.Moves.{over_room}
use Rattle.hum_stage.proofs.Telling.{told_as}
use Rattle.hum_timebase.specs.Timebase.{around}
use Rattle.hum_timebase.proofs.Striking.{around_length, over_count}
use Rattle.hum_timebase.proofs.grid.place.Goals as goal

pub returns-in_err-check_room : goal.returns-in_err-check_room
returns-in_err-check_room c =
    let many = c.in_err-check_room.ensures.many in
    let made = c.args.made in
    let a = c.saturating_add.ensures in
    let b = c.saturating_add-count.ensures in
    let s = c.single.ensures in
    told_as c.from_residual.result c.in_err-check_room.field-0.0 _ _ c.from_residual.ensures.1 many.0
    (over_room c.args.room (around made.before made.stays made.after (tokens_of c.args.row)) _ refl
    (rw (around_length made.before made.after made.stays (tokens_of c.args.row), ← s)
    (over_count made.before made.after c.single.result c.args.room c.saturating_add.result
    c.saturating_add-count.result a b many.1)))
