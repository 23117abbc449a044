use Rattle.std.proofs.Common.{◌∙◌, arith}
use Rattle.hum_score.specs.Row.{tokens_of}
use Rattle.hum_score.specs.Spines.{exclusives}
use Rattle.hum_timebase.proofs.Reading.{names_done, timed_more}
use Rattle.hum_timebase.proofs.notes.timed_at.Goals as goal

pub loop-j-preserved : goal.loop-j-preserved
loop-j-preserved c =
    let below = c.loop-j-test.true in
    let width = c.width-j-end.ensures in
    rw c.in_ok-push.ensures.items
    (timed_more (exclusives c.args.paths.now.path) (tokens_of c.args.row.now) c.loop-j.timed.items _ c.loop-j.j
    c.is_timed.result c.own_name.result.now c.token.result.now
    (omega (arith, below, width)) c.is_timed.ensures c.own_name.ensures c.token.ensures.token c.loop-j.invariant)

pub returns : goal.returns
returns c =
    let names = exclusives c.args.paths.now.path in
    let tokens = tokens_of c.args.row.now in
    let over = c.loop-j-test.false in
    let width = c.width-j-end.ensures in
    c.new.ensures ∙ names_done names tokens c.loop-j.timed.items _ c.loop-j.j (omega (arith, over, width)) c.loop-j.invariant
