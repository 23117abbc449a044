use Rattle.std.proofs.Common.{◌∙◌, arith}
use Rattle.hum_path.proofs.Carry.{map_more}
use Rattle.hum_timebase.specs.Kept.{end_by}
use Rattle.hum_timebase.proofs.Lasts.{map_done}
use Rattle.hum_timebase.proofs.ends.ends_by.Goals as goal

pub loop-i-preserved : goal.loop-i-preserved
loop-i-preserved c = rw (c.in_ok-push.ensures.items, c.end_by.ensures)
    (map_more (λ move. end_by 0 move c.args.ends.now) c.loop-i.next.items c.args.found.now c.loop-i.i c.get.result c.get.ensures ∙ c.loop-i.invariant)

pub get-requires : goal.get-requires
get-requires c =
    let test = c.loop-i-test.true in
    let end = c.len-i-end.ensures in
    omega (arith, test, end)

pub returns : goal.returns
returns c =
    let over = c.loop-i-test.false in
    let end = c.len-i-end.ensures in
    map_done (λ move. end_by 0 move c.args.ends.now) c.loop-i.next.items _ c.args.found.now c.loop-i.i (omega (arith, over, end))
    c.loop-i.invariant
