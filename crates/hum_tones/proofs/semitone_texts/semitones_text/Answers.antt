use Rattle.std.proofs.Common.{◌≡◌, ◌∙◌, sym, ap, subst, ℕ, List, ◌≤◌, take, length, to_z, of_z, w32, arith}
use Rattle.std.proofs.lemmas.Int.{ints}
use Rattle.std.specs.Fmt.{signed_decimal}
use Rattle.hum_tones.proofs.SemitoneTexts.{size_at, room, text_at}
use Rattle.hum_tones.proofs.semitone_texts.semitones_text.Goals as goal

pub split_at-requires-2 : goal.split_at-requires-2
split_at-requires-2 c =
    let place = c.place_of-place.result in
    subst (λ (xs : List ℕ). size_at place ≤ length xs) (sym c.split_at.ensures.back) (room place c.place_of-place.ensures.few)

pub returns : goal.returns
returns c =
    let place = c.place_of-place.result in
    let range = c.requires in
    let semitones : to_z w32 (of_z w32 c.args.semitones) ≡ c.args.semitones = omega (arith, ints, range) in
    c.split_at-2.ensures.front ∙ ap (λ (xs : List ℕ). take (size_at place) xs) c.split_at.ensures.back ∙ text_at place c.place_of-place.ensures.few
    ∙ ap signed_decimal (sym c.place_of-place.ensures.exact ∙ semitones)
