use Rattle.std.proofs.lemmas.Bool.Decides.{nat_tests}
use Rattle.std.proofs.Common.{arith}
use Rattle.std.proofs.lemmas.List.{length-set}
use Rattle.hum_record.proofs.Filled.{stands_below, stands_above, one_put, begins_next, all_put}
use Rattle.hum_record.proofs.filling.put_filled.Goals as goal

pub put_one-requires-clause-order : goal.put_one-requires-clause-order
put_one-requires-clause-order c =
    let l = c.loop-j in
    let s = stands_below c.args.row.now c.args.above.now c.args.row_len c.args.above_len c.args.ends.now c.args.above_ends.now l.j
    c.requires.row c.requires.above c.requires.cut c.requires.above_cut c.requires.as_wide c.loop-j-test.true in
    let order = s.order in
    let at = l.invariant.1 in
    omega (arith, order, at)

pub put_one-requires-clause-above_order : goal.put_one-requires-clause-above_order
put_one-requires-clause-above_order c =
    let l = c.loop-j in
    let s = stands_above c.args.row.now c.args.above.now c.args.row_len c.args.above_len c.args.ends.now c.args.above_ends.now l.j
    c.requires.row c.requires.above c.requires.cut c.requires.above_cut c.requires.as_wide c.loop-j-test.true in
    let order = s.order in
    let at = l.invariant.2 in
    omega (arith, order, at)

pub put_one-requires-clause-filled : goal.put_one-requires-clause-filled
put_one-requires-clause-filled c =
    let s = stands_below c.args.row.now c.args.above.now c.args.row_len c.args.above_len c.args.ends.now c.args.above_ends.now c.loop-j.j
    c.requires.row c.requires.above c.requires.cut c.requires.above_cut c.requires.as_wide c.loop-j-test.true in
    let within = s.within in
    omega (arith, within, c.requires.row)

pub put_one-requires-clause-above_filled : goal.put_one-requires-clause-above_filled
put_one-requires-clause-above_filled c =
    let s = stands_above c.args.row.now c.args.above.now c.args.row_len c.args.above_len c.args.ends.now c.args.above_ends.now c.loop-j.j
    c.requires.row c.requires.above c.requires.cut c.requires.above_cut c.requires.as_wide c.loop-j-test.true in
    let within = s.within in
    omega (arith, within, c.requires.above)

pub bounds-text-to : goal.bounds-text-to
bounds-text-to c =
    let l = c.loop-j in
    let s = stands_below c.args.row.now c.args.above.now c.args.row_len c.args.above_len c.args.ends.now c.args.above_ends.now l.j
    c.requires.row c.requires.above c.requires.cut c.requires.above_cut c.requires.as_wide c.loop-j-test.true in
    let a = stands_above c.args.row.now c.args.above.now c.args.row_len c.args.above_len c.args.ends.now c.args.above_ends.now l.j
    c.requires.row c.requires.above c.requires.cut c.requires.above_cut c.requires.as_wide c.loop-j-test.true in
    let at = l.invariant.1 in
    let above_at = l.invariant.2 in
    let short = l.invariant.3 in
    let order = s.order in
    let within = s.within in
    let above_order = a.order in
    let above_within = a.within in
    let most = c.in_ok-to.ensures.most in
    omega (arith, at, above_at, short, order, within, above_order, above_within, most, c.requires.room, l.invariant.4, c.put_one.auto.text)

pub overflow_cast-places : goal.overflow_cast-places
overflow_cast-places c =
    let l = c.loop-j in
    let s = stands_below c.args.row.now c.args.above.now c.args.row_len c.args.above_len c.args.ends.now c.args.above_ends.now l.j
    c.requires.row c.requires.above c.requires.cut c.requires.above_cut c.requires.as_wide c.loop-j-test.true in
    let a = stands_above c.args.row.now c.args.above.now c.args.row_len c.args.above_len c.args.ends.now c.args.above_ends.now l.j
    c.requires.row c.requires.above c.requires.cut c.requires.above_cut c.requires.as_wide c.loop-j-test.true in
    let at = l.invariant.1 in
    let above_at = l.invariant.2 in
    let short = l.invariant.3 in
    let order = s.order in
    let within = s.within in
    let above_order = a.order in
    let above_within = a.within in
    let most = c.in_ok-to.ensures.most in
    record { fits = omega (arith, at, above_at, short, order, within, above_order, above_within, most, c.requires.few) }

pub loop-j-preserved : goal.loop-j-preserved
loop-j-preserved c =
    let l = c.loop-j in
    let s = stands_below c.args.row.now c.args.above.now c.args.row_len c.args.above_len c.args.ends.now c.args.above_ends.now l.j
    c.requires.row c.requires.above c.requires.cut c.requires.above_cut c.requires.as_wide c.loop-j-test.true in
    let a = stands_above c.args.row.now c.args.above.now c.args.row_len c.args.above_len c.args.ends.now c.args.above_ends.now l.j
    c.requires.row c.requires.above c.requires.cut c.requires.above_cut c.requires.as_wide c.loop-j-test.true in
    let at = l.invariant.1 in
    let above_at = l.invariant.2 in
    let short = l.invariant.3 in
    let order = s.order in
    let within = s.within in
    let above_order = a.order in
    let above_within = a.within in
    let most = c.in_ok-to.ensures.most in
    let to = c.in_ok-to.to in
    let put = c.put_one.new.text in
    let same = l.invariant.4 in
    let same_places = l.invariant.5 in
    let text_size = c.put_one.auto.text in
    let test = c.loop-j-test.true in (
      one_put c.args.row.now c.args.above.now c.args.row_len c.args.above_len c.args.ends.now c.args.above_ends.now l.j
          c.requires.row c.requires.above c.requires.cut c.requires.above_cut c.requires.as_wide test
          l.len to l.begin l.above_begin l.text l.places put l.invariant.0 at above_at
          (omega (arith, test, same_places, c.requires.places)) (bounds-text-to c) c.in_ok-to.ensures.text,
      begins_next c.args.ends.now l.j,
      begins_next c.args.above_ends.now l.j,
      omega (arith, at, above_at, short, order, above_order, most),
      omega (arith, length-set put to 9, text_size, same),
      omega (arith, length-set l.places l.j to, same_places),
      omega (arith, within),
      omega (arith, above_within),
    )

pub overflow_sub-to : goal.overflow_sub-to
overflow_sub-to c =
    let l = c.loop-j in
    (all_put c.args.row.now c.args.above.now c.args.row_len c.args.above_len c.args.ends.now l.j l.len l.text l.places
    c.requires.cut l.invariant.0 (let t = c.loop-j-test.false in omega (arith, t)) (let e = l.auto.j-end in omega (arith, e))).some

pub returns-clause-text : goal.returns-clause-text
returns-clause-text c =
    let l = c.loop-j in
    (all_put c.args.row.now c.args.above.now c.args.row_len c.args.above_len c.args.ends.now l.j l.len l.text l.places
    c.requires.cut l.invariant.0 (let t = c.loop-j-test.false in omega (arith, t)) (let e = l.auto.j-end in omega (arith, e))).text_is

pub returns-clause-ends : goal.returns-clause-ends
returns-clause-ends c =
    let l = c.loop-j in
    (all_put c.args.row.now c.args.above.now c.args.row_len c.args.above_len c.args.ends.now l.j l.len l.text l.places
    c.requires.cut l.invariant.0 (let t = c.loop-j-test.false in omega (arith, t)) (let e = l.auto.j-end in omega (arith, e))).ends_are

pub returns-clause-at_most : goal.returns-clause-at_most
returns-clause-at_most c = grind (arith, nat_tests)
