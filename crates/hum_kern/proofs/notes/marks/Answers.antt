use Rattle.std.proofs.lemmas.Bool.Decides.{nat_tests}
use Rattle.std.proofs.Common.{◌≡◌, ◌∙◌, ◌||◌, get_or, ne_eqb, refl, sym, ap, ap₂, arith}
use Rattle.std.proofs.lemmas.List.{take_all}
use Rattle.std.proofs.lemmas.List.Folds.{list_any_more}
use Rattle.hum_kern.specs.Classes.{is_rest_sign, is_grace_sign, is_continued_sign}
use Rattle.hum_kern.proofs.Placing.{same_marks}
use Rattle.hum_kern.proofs.notes.marks.Goals.{then-b-eq113, else-b-eq113, then-b-eq95, else-b-eq95}
use Rattle.hum_kern.proofs.notes.marks.Goals as goal

pub loop-b-preserved : goal.loop-b-preserved
loop-b-preserved c =
    let bytes = c.args.bytes.now in
    let i = c.loop-b.b-index in
    let b = get_or bytes i 0 in
    let less = c.loop-b-test.true in
    let so_far = c.loop-b.invariant in
    let grace : c.if-b-eq113.grace ≡ is_grace_sign b = elim c.if-b-eq113.branch [
      | then-b-eq113 w ↦ w.grace-is ∙ rw w.if-b-eq113.true refl
      | else-b-eq113 w ↦ w.grace-is ∙ rw (ne_eqb b 113 w.if-b-eq113.false) refl
    ] in
    let continued : c.if-b-eq95.continued ≡ is_continued_sign b = elim c.if-b-eq95.branch [
      | then-b-eq95 w ↦ w.continued-is ∙ rw w.if-b-eq95.true refl
      | else-b-eq95 w ↦ w.continued-is ∙ rw (ne_eqb b 95 w.if-b-eq95.false) refl
    ] in
    record {
      rest = ap (λ r. r || is_rest_sign b) so_far.rest ∙ sym (list_any_more is_rest_sign bytes i 0 less);
      grace = ap₂ ◌||◌ so_far.grace grace ∙ sym (list_any_more is_grace_sign bytes i 0 less);
      continued = ap₂ ◌||◌ so_far.continued continued ∙ sym (list_any_more is_continued_sign bytes i 0 less);
    }

pub returns : goal.returns
returns = grind (arith, nat_tests, take_all, same_marks)
