use Rattle.std.proofs.lemmas.Bool.Decides.{nat_tests}
use Rattle.std.proofs.Common.{◌≡◌, to_z, of_z, w32, arith}
use Rattle.std.proofs.lemmas.Int.{ints}
use Rattle.std.proofs.lemmas.Result.{err_from_is_err_and}
use Rattle.hum_pitch.proofs.Names.{named_behind}
use Rattle.hum_pitch.proofs.naming.push_interval.Goals as goal

pub push_repeated-requires : goal.push_repeated-requires
push_repeated-requires = grind (arith, nat_tests)

pub returns-in_err-push_repeated : goal.returns-in_err-push_repeated
returns-in_err-push_repeated c =
    let p = err_from_is_err_and c.from_residual.result c.from_residual.ensures.1 in rw p.1 tt

pub quality_letters-requires : goal.quality_letters-requires
quality_letters-requires c = c.quality.ensures.modest

pub push_repeated-requires-2 : goal.push_repeated-requires-2
push_repeated-requires-2 c = grind (arith, nat_tests)

pub returns-in_err-push_repeated-2 : goal.returns-in_err-push_repeated-2
returns-in_err-push_repeated-2 c =
    let r = c.from_residual-in_err-push_repeated-2 in
    let p = err_from_is_err_and r.result r.ensures.1 in rw p.1 tt

pub overflow_add-unsigned_abs : goal.overflow_add-unsigned_abs
overflow_add-unsigned_abs c = grind (arith, nat_tests)

pub returns : goal.returns
returns c =
    let first = rw (c.sign.ensures.exact, c.direction.ensures) at c.shown.ensures.exact in
    let second = rw (c.quality_letters.ensures.exact, c.quality.ensures.exact) at c.shown-2.ensures.exact in
    let text = rw (second, c.in_ok-push_repeated.ensures, first) at c.in_ok-push_repeated-2.ensures in
    let range = c.args.interval.in_range.0 in
    let steps : to_z w32 (of_z w32 c.args.interval.d) ≡ c.args.interval.d = omega (arith, ints, range) in
    let size = rw steps at c.unsigned_abs.ensures.value in
    let number = rw (text, size) at c.push_number.ensures in
    rw (← named_behind c.args.signless c.args.sizeonly c.args.text.now.items _ _ _) number
