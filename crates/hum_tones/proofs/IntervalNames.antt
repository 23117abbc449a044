-- The names of intervals, in one table.
use Rattle.std.proofs.Common.{◌≡◌, ◌≢◌, ◌∙◌, refl, sym, ap, subst, ℕ, ℤ, ◌+◌, ◌-◌, ◌*◌, ◌^◌, ◌==◌, ◌<◌, ◌≤◌, Bool, true, false, ◌&&◌, ◌||◌, pos}
use Rattle.std.proofs.Common.{pos, List, ◌++◌, drop, length, length-drop, get_or, arith}
use Rattle.std.specs.Prelude.{nat_le, nat_lt, unsigned_abs}
use Rattle.std.specs.Str.{bytes_eq}
use Rattle.std.proofs.lemmas.Bool.{and_parts}
use Rattle.std.proofs.lemmas.Bool.Decides.{nat_tests}
use Rattle.std.proofs.lemmas.Slice.Eq.{bytes_eq-Decides}
use Rattle.hum_pitch.specs.Pitch.{natural}
use Rattle.hum_pitch.specs.Intervals.{direction, sign, quality, quality_letters, size, named}
use Rattle.hum_tones.specs.IntervalNames.{widths, steps_at, semitones_at, names, size_at, text_at}
use Rattle.hum_score.specs.declared.records.SpinedKind.TheVariants.{Values}
use Rattle.hum_score.specs.Spelling.{IsToken}
use Rattle.std.specs.Int.Signed.{mag}
use Rattle.std.proofs.lemmas.Int.{ints}
use Rattle.hum_tones.proofs.MintedLawful.{named_lawful}
use Rattle.hum_tones.proofs.SemitoneTexts.{every, every_at, spell, spell_is}

-- the name of so many steps and semitones, whose size is spelled
abbrev spelled_name : ℤ → ℤ → List ℕ
spelled_name d s = (sign (direction d s) ++ quality_letters (quality d s)) ++ spell (unsigned_abs d + 1)

is_right : ℕ → ℕ → Bool
is_right row from =
    let place = 5 * row + from in
    nat_lt (unsigned_abs (steps_at row) + 1) 1000
    && ((size_at place == 0) || bytes_eq (text_at place) (spelled_name (steps_at row) (semitones_at row from)))

all_right : every (λ row. every (is_right row) 5) 64 ≡ true
unfolding is_right natural
all_right = refl

right_at : (row from : ℕ) → row ≤ 63 → from ≤ 4 → is_right row from ≡ true
right_at row from few near =
    every_at (is_right row) 5 from (every_at (λ row. every (is_right row) 5) 64 row all_right (omega (arith, few))) (omega (arith, near))

all_within : every (λ place. nat_le (4 * place + size_at place) 1288) 322 ≡ true
all_within = refl

pub room : (place : ℕ) → place ≤ 321 → size_at place ≤ length (drop (4 * place) names)
room place few =
    let test = every_at (λ place. nat_le (4 * place + size_at place) 1288) 322 place all_within (omega (arith, few)) in
    let within : 4 * place + size_at place ≤ 1288 = grind (arith, nat_tests, test) in
    let counted : length (drop (4 * place) names) ≡ 1288 - 4 * place = length-drop (4 * place) names in
    omega (arith, counted, within)

pub name_at : (row from : ℕ) → row ≤ 63 → from ≤ 4 → size_at (5 * row + from) ≢ 0
    → text_at (5 * row + from) ≡ named false false (steps_at row) (semitones_at row from)
unfolding is_right
name_at row from few near some =
    let place = 5 * row + from in
    let both = and_parts (nat_lt (unsigned_abs (steps_at row) + 1) 1000) _ (right_at row from few near) in
    let test = both.0 in
    let small : unsigned_abs (steps_at row) + 1 < 1000 = grind (arith, nat_tests, test) in
    let sized : (size_at place == 0) ≡ false = grind (arith, nat_tests, some) in
    (bytes_eq-Decides _ _).0 (rw sized at both.1)
    ∙ ap (λ (t : List ℕ). (sign (direction (steps_at row) (semitones_at row from)) ++ quality_letters (quality (steps_at row) (semitones_at row from))) ++ t)
    (spell_is (unsigned_abs (steps_at row) + 1) small)

pub lawful_name : (row from : ℕ) → row ≤ 63 → from ≤ 4 → size_at (5 * row + from) ≢ 0 → IsToken Values (text_at (5 * row + from))
lawful_name row from few near some =
    let small : mag (pos (size (steps_at row))) < 2 ^ 63 = omega (arith, ints, few) in
    subst (λ (t : List ℕ). IsToken Values t) (sym (name_at row from few near some)) (named_lawful false false (steps_at row) (semitones_at row from) small)

all_small : every (λ row. nat_le (get_or widths row 0) 117) 64 ≡ true
all_small = refl

pub small_width : (row : ℕ) → row ≤ 63 → get_or widths row 0 ≤ 117
small_width row few =
    let test = every_at (λ row. nat_le (get_or widths row 0) 117) 64 row all_small (omega (arith, few)) in grind (arith, nat_tests, test)
