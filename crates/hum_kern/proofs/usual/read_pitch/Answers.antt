use Rattle.std.proofs.Common.{◌≡◌, ◌∙◌, ap, arith, to_z, of_z, w8}
use Rattle.std.proofs.lemmas.Int.{ints}
use Rattle.hum_kern.specs.Usual.{tie_at_end}
use Rattle.hum_kern.proofs.Places.{usual_at}
use Rattle.hum_kern.proofs.usual.read_pitch.Goals as goal

pub returns : goal.returns
returns c =
    let high = c.natural-note.ensures.octave in
    let octave : to_z w8 (of_z w8 c.natural-note.result.octave) ≡ c.natural-note.result.octave = omega (arith, ints, high) in
    let by = c.sign_at-alteration.ensures.in_range in
    let alteration : to_z w8 (of_z w8 c.sign_at-alteration.result.0) ≡ c.sign_at-alteration.result.0 = omega (arith, ints, by) in
    let few = c.if-letters-gt8.false in
    rw (octave, alteration) (usual_at c.args.bytes.now c.args.start c.args.letter c.run_end-behind.result c.sign_at-alteration.result.1
    c.run_end-last.result c.in-Some.continued _ _ _ c.requires.within c.requires.plain c.requires.at c.requires.letter
    c.run_end-behind.ensures.run c.run_end-behind.ensures.behind c.sign_at-alteration.ensures.within c.sign_at-alteration.ensures.signs
    c.sign_at-alteration.ensures.few c.run_end-last.ensures.behind (c.in-Some.ensures ∙ ap tie_at_end c.split_at.ensures.back)
    (omega (arith, few)) c.natural-note.ensures.exact c.sign_at-alteration.ensures.alteration)
