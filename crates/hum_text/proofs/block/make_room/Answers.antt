use Rattle.std.proofs.Common.{◌≤◌, length, arith}
use Rattle.hum_text.proofs.WindowLemmas.{moved-window, wider-window}
use Rattle.hum_text.proofs.block.make_room.Goals as goal

pub returns-then-end-start-clause-kept : goal.returns-then-end-start-clause-kept
returns-then-end-start-clause-kept c =
    let bytes = c.args.bytes.now in
    rw c.copy_within.ensures.items (moved-window bytes.items c.args.start c.args.end (omega (arith, c.requires.within, bytes.ok.0)))

pub returns-clause-kept : goal.returns-clause-kept
returns-clause-kept c =
    let bytes = c.args.bytes.now in
    let room : length bytes.items ≤ c.max.result = omega (arith, c.max.ensures, c.saturating_mul.ensures, c.len-len.ensures, bytes.ok.0) in
    rw c.in_ok-resize-2.ensures.items
    (wider-window bytes.items _ c.args.start c.args.end _ c.requires.order (omega (arith, c.requires.within, bytes.ok.0)) room)
