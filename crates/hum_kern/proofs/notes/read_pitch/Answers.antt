use Rattle.std.proofs.Common.{◌≡◌, sym, arith, ltb-false, to_z, of_z, w8}
use Rattle.std.proofs.lemmas.Int.{ints}
use Rattle.hum_kern.proofs.Placing.{no_more}
use Rattle.hum_kern.proofs.notes.read_pitch.Goals as goal

pub natural-note-requires-clause-few : goal.natural-note-requires-clause-few
natural-note-requires-clause-few c = ltb-false _ _ (no_more _ _ (sym c.if-is_excessive.ensures)).0

pub alteration-requires : goal.alteration-requires
alteration-requires c = ltb-false _ _ (no_more _ _ (sym c.if-is_excessive.ensures)).1

pub invariant_of-result : goal.invariant_of-result
invariant_of-result c =
    let high = c.natural-note.ensures.octave in
    let by = c.alteration.ensures.in_range in
    let octave : to_z w8 (of_z w8 c.natural-note.result.octave) ≡ c.natural-note.result.octave = omega (arith, ints, high) in
    let alteration : to_z w8 (of_z w8 c.alteration.result) ≡ c.alteration.result = omega (arith, ints, by) in
    rw (octave, alteration) (record { in_range = (c.natural-note.ensures.step, high, by) })

pub overflow_add-letters : goal.overflow_add-letters
overflow_add-letters c =
    let whole = c.split_run.ensures.whole in
    let fits = c.requires.fits in
    omega (arith, whole, fits)

pub overflow_add-result : goal.overflow_add-result
overflow_add-result c =
    let whole = c.split_run.ensures.whole in
    let fits = c.requires.fits in
    omega (arith, whole, fits)

pub overflow_add-result-2 : goal.overflow_add-result-2
overflow_add-result-2 c =
    let whole = c.split_run.ensures.whole in
    let behind = c.split_run-2.ensures.whole in
    let fits = c.requires.fits in
    omega (arith, whole, behind, fits)
