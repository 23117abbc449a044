use Rattle.std.proofs.lemmas.Bool.Decides.{nat_tests}
use Rattle.std.proofs.Common.{sym, arith}
use Rattle.std.proofs.lemmas.List.Sums.{prefix_len-le-length}
use Rattle.std.proofs.lemmas.List.Splits.{join_with_byte-slice_split}
use Rattle.hum_score.specs.Spelling.{parts}
use Rattle.hum_record.proofs.Laws.{parts_filled}
use Rattle.hum_record.proofs.Selected.{unmoved, place_within, place_behind, end_within, least, most, turn, all_turns}
use Rattle.hum_record.proofs.leaving.move_to_front.Goals as goal

pub front_len-len-requires : goal.front_len-len-requires
front_len-len-requires c = omega (arith, c.front-count.ensures, prefix_len-le-length (λ b. b) c.args.selection.now, c.requires.as_wide)

pub loop-j-init : goal.loop-j-init
loop-j-init c =
    let text = c.args.text.now in
    rw (c.front_len-len.ensures, c.front-count.ensures, c.moved-j-items.ensures)
    (unmoved text c.args.ends.now c.args.selection.now (parts text) (parts_filled text)
    (sym (join_with_byte-slice_split 9 text)) c.requires.cut c.requires.as_wide)

pub bounds-ends-j : goal.bounds-ends-j
bounds-ends-j c = place_within _ _ _ _ _ _ _ _ c.loop-j.invariant c.loop-j-test.true

pub offset_bounds-ends-j : goal.offset_bounds-ends-j
offset_bounds-ends-j c =
    let w = place_within _ _ _ _ _ _ _ _ c.loop-j.invariant c.loop-j-test.true in record { fits = omega (arith, w) }

pub offset_bounds-ends-j-in-loop-j : goal.offset_bounds-ends-j-in-loop-j
offset_bounds-ends-j-in-loop-j c =
    let w = place_within _ _ _ _ _ _ _ _ c.loop-j.invariant c.loop-j-test.true in record { fits = omega (arith, w) }

pub overflow_sub-j : goal.overflow_sub-j
overflow_sub-j c =
    let b = place_behind _ _ _ _ _ _ _ _ c.loop-j.invariant c.loop-j-test.true in omega (arith, b)

pub bounds-ends-j-in-loop-j : goal.bounds-ends-j-in-loop-j
bounds-ends-j-in-loop-j c =
    let w = place_within _ _ _ _ _ _ _ _ c.loop-j.invariant c.loop-j-test.true in omega (arith, w)

pub move_left-requires-clause-leftward : goal.move_left-requires-clause-leftward
move_left-requires-clause-leftward c =
    least _ _ _ _ _ _ _ _ c.loop-j.invariant c.loop-j-test.true c.moved_from-from.result c.moved_from-from.ensures

pub move_left-requires-clause-order : goal.move_left-requires-clause-order
move_left-requires-clause-order c =
    most _ _ _ _ _ _ _ _ c.loop-j.invariant c.loop-j-test.true c.moved_from-from.result c.moved_from-from.ensures

pub move_left-requires-clause-within : goal.move_left-requires-clause-within
move_left-requires-clause-within c = end_within _ _ _ _ _ _ _ _ c.loop-j.invariant c.loop-j-test.true

pub overflow_sub-len : goal.overflow_sub-len
overflow_sub-len c =
    most _ _ _ _ _ _ _ _ c.loop-j.invariant c.loop-j-test.true c.moved_from-from.result c.moved_from-from.ensures

pub overflow_add-len : goal.overflow_add-len
overflow_add-len c =
    let from = c.moved_from-from.ensures in
    let l = least _ _ _ _ _ _ _ _ c.loop-j.invariant c.loop-j-test.true c.moved_from-from.result from in
    let m = most _ _ _ _ _ _ _ _ c.loop-j.invariant c.loop-j-test.true c.moved_from-from.result from in
    let e = end_within _ _ _ _ _ _ _ _ c.loop-j.invariant c.loop-j-test.true in
    let size = c.loop-j.auto.text in
    omega (arith, l, m, e, size, c.requires.at_most)

pub overflow_cast-ends-in-loop-j : goal.overflow_cast-ends-in-loop-j
overflow_cast-ends-in-loop-j c =
    let from = c.moved_from-from.ensures in
    let l = least _ _ _ _ _ _ _ _ c.loop-j.invariant c.loop-j-test.true c.moved_from-from.result from in
    let m = most _ _ _ _ _ _ _ _ c.loop-j.invariant c.loop-j-test.true c.moved_from-from.result from in
    let e = end_within _ _ _ _ _ _ _ _ c.loop-j.invariant c.loop-j-test.true in
    let size = c.loop-j.auto.text in
    omega (arith, l, m, e, size, c.requires.at_most)

pub bounds-ends-count : goal.bounds-ends-count
bounds-ends-count c =
    let w = place_within _ _ _ _ _ _ _ _ c.loop-j.invariant c.loop-j-test.true in
    let b = place_behind _ _ _ _ _ _ _ _ c.loop-j.invariant c.loop-j-test.true in
    omega (arith, w, b)

pub loop-j-preserved : goal.loop-j-preserved
loop-j-preserved c =
    turn _ _ _ _ _ _ _ _ c.loop-j.invariant c.loop-j-test.true c.moved_from-from.result c.moved_from-from.ensures
    c.move_left.new.text c.move_left.ensures

pub returns-clause-text : goal.returns-clause-text
returns-clause-text c = (all_turns _ _ _ _ _ _ _ _ c.loop-j.invariant c.loop-j-test.false).0

pub returns-clause-ends : goal.returns-clause-ends
returns-clause-ends c = (all_turns _ _ _ _ _ _ _ _ c.loop-j.invariant c.loop-j-test.false).1

pub returns-clause-shorter : goal.returns-clause-shorter
returns-clause-shorter c = c.loop-j.invariant.left.within

pub returns-clause-fewer : goal.returns-clause-fewer
returns-clause-fewer c = grind (arith, nat_tests)
