use Rattle.std.proofs.lemmas.Bool.Decides.{nat_tests}
use Rattle.std.proofs.Common.{refl, arith}
use Rattle.std.proofs.lemmas.Result.{err_from_is_err_and}
use Rattle.hum_record.proofs.building.add_far.Goals as goal

pub returns-in_err-provide : goal.returns-in_err-provide
returns-in_err-provide c =
    grind (arith, nat_tests, err_from_is_err_and c.from_residual.result c.from_residual.ensures.1)

pub returns-then-not-has_room : goal.returns-then-not-has_room
returns-then-not-has_room c =
    let text = rw c.in-Some.is at c.in_ok-provide.ensures.text in
    let ends = rw c.in-Some.is at c.in_ok-provide.ensures.ends in
    record {
      fits = rw (c.text.ensures, c.deref.ensures, c.ends.ensures, c.deref-2.ensures, text, ends) at c.if-not-has_room.ensures;
      text = text;
      ends = ends;
      there = refl;
    }

pub returns-in_err-add : goal.returns-in_err-add
returns-in_err-add c =
    let r = c.from_residual-in_err-add in
    let p = err_from_is_err_and r.result r.ensures.1 in
    rw p.1 (record { fits = tt; text = tt; ends = tt; there = tt })

pub returns : goal.returns
returns c =
    let text = rw c.in-Some.is at c.in_ok-provide.ensures.text in
    let ends = rw c.in-Some.is at c.in_ok-provide.ensures.ends in
    record {
      fits = rw (c.text.ensures, c.deref.ensures, c.ends.ensures, c.deref-2.ensures, text, ends) at c.if-not-has_room.ensures;
      text = rw (c.deref_mut.ensures.value, text, ends) at c.in_ok-add.ensures.text;
      ends = rw (c.deref_mut.ensures.value, ends) at c.in_ok-add.ensures.ends;
      there = refl;
    }
