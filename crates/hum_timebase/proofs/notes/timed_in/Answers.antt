use Rattle.std.proofs.Common.{arith, []}
use Rattle.hum_score.specs.Spines.{exclusives}
use Rattle.hum_timebase.specs.Notes.{is_timed}
use Rattle.hum_timebase.proofs.Lasts.{map_next}
use Rattle.hum_timebase.proofs.notes.timed_in.Goals as goal

pub loop-j-preserved : goal.loop-j-preserved
loop-j-preserved c =
    let test = c.loop-j-test.true in
    let end = c.width-j-end.ensures.width in
    rw c.in_ok-push.ensures.items (map_next is_timed c.loop-j.timed.items _ (exclusives c.args.paths.now.path) c.loop-j.j
    c.exclusive.result.now [] c.is_timed.result (omega (arith, test, end)) c.exclusive.ensures c.is_timed.ensures c.loop-j.invariant)
