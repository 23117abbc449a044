-- A pitch that is read of a token is within the limits of pitches.
use Rattle.std.proofs.Common.{◌≡◌, refl, sym, subst, ℕ, ◌<◌, ◌≤◌, ◌==◌, Bool, true, false, cond, ◌&&◌, not}
use Rattle.std.proofs.Common.{pos, ◌+ℤ◌, ◌-ℤ◌, List, [], ◌∷◌, length, Option, None, Some, arith}
use Rattle.std.specs.Prelude.{Result, Ok, Err, neg_ℤ, nat_lt}
use Rattle.std.specs.List.{position, find}
use Rattle.std.proofs.lemmas.Int.{ints}
use Rattle.std.proofs.lemmas.Bool.{or_parts}
use Rattle.std.proofs.lemmas.Bool.Decides.{nat_tests}
use Rattle.std.proofs.lemmas.List.Quantifiers.{position-Some}
use Rattle.hum_record.specs.Contents.{is_filled, is_barline}
use Rattle.hum_path.specs.Chains.{reach}
use Rattle.hum_pitch.specs.Pitch.{Spelled, IsPitch, IsOctave, IsAlteration}
use Rattle.hum_pitch.specs.Spelling.{small_letters, capitals, read_small, read_capitals, altered_by}
use Rattle.hum_kern.specs.declared.KernFault.{KernFault}
use Rattle.hum_kern.specs.Note.{Reading, note, notation_of, alteration_of, pitch_of}
use Rattle.hum_kern.proofs.Found.{found_in}
use Rattle.hum_stage.specs.declared.faults.Rule.{Rule}
use Rattle.hum_tones.specs.Subtokens.{subtokens}
use Rattle.hum_tones.specs.Mint.{with_reading, readings_of, readings, Tone, or_tone, leading, new_pitch, pitch_in, remembered_of}
use Rattle.hum_tones.specs.Mint.{is_break, settles, settled, note_before}

abbrev pub IsRead : Spelled → Type 0
IsRead p = IsPitch p.step p.octave p.alteration

signs_within : (signs : List ℕ) → length signs ≤ 7 → IsAlteration (alteration_of signs)
signs_within [] few = (omega (arith, ints), omega (arith, ints))
signs_within (b ∷ signs) few = by (b == 35) (b == 45)
  where
    by : (sharp flat : Bool)
        → IsAlteration (cond sharp (pos (length (b ∷ signs))) (cond flat (neg_ℤ (pos (length (b ∷ signs)))) (pos 0)))
    by true flat = (omega (arith, ints), omega (arith, ints))
    by false true = (omega (arith, ints), omega (arith, ints))
    by false false = (omega (arith, ints), omega (arith, ints))

letters_within : (letters signs : List ℕ) (p : Spelled) → length letters ≤ 8 → length signs ≤ 7
    → pitch_of letters signs ≡ Some p → IsRead p
letters_within [] signs p few less e = cc
letters_within (b ∷ letters) signs p few less e = small (position (λ x. x == b) small_letters) refl e
  where
    within : p.step < 7 → IsOctave p.octave → alteration_of signs ≡ p.alteration → IsRead p
    within step octave is = (step, octave, subst IsAlteration is (signs_within signs less))

    large : (o : Option ℕ) → position (λ x. x == b) capitals ≡ o
        → altered_by (read_capitals (length (b ∷ letters)) o) (Some (alteration_of signs)) ≡ Some p → IsRead p
    large None at e = cc
    large (Some k) at e =
        let there = position-Some (λ x. x == b) capitals k 0 at in
        let step : k ≡ p.step = cc in
        let octave : pos 4 -ℤ pos (length (b ∷ letters)) ≡ p.octave = cc in
        within (omega (arith, there.0, step)) (omega (arith, ints, octave, few), omega (arith, ints, octave, few)) cc

    small : (o : Option ℕ) → position (λ x. x == b) small_letters ≡ o
        → altered_by (read_small b (length (b ∷ letters)) o) (Some (alteration_of signs)) ≡ Some p → IsRead p
    small None at e = large (position (λ x. x == b) capitals) refl e
    small (Some k) at e =
        let there = position-Some (λ x. x == b) small_letters k 0 at in
        let step : k ≡ p.step = cc in
        let octave : pos 3 +ℤ pos (length (b ∷ letters)) ≡ p.octave = cc in
        within (omega (arith, there.0, step)) (omega (arith, ints, octave, few), omega (arith, ints, octave, few)) cc

not_over : (limit n : ℕ) → nat_lt limit n ≡ false → n ≤ limit
not_over limit n h = grind (arith, nat_tests, h)

read_pitch : (part : List ℕ) (reading : Reading) (p : Spelled) → Ok reading ≡ note part → reading.pitch ≡ Some p → IsRead p
read_pitch part reading p is there =
    let found = found_in part reading p is there in
    let letters = (notation_of part).letters in
    let signs = (notation_of part).signs in
    let modest = or_parts (nat_lt 8 (length letters)) (nat_lt 7 (length signs)) found.modest in
    letters_within letters signs p (not_over 8 (length letters) modest.0) (not_over 7 (length signs) modest.1) found.pitch

-- the first of a token's notes

pub leading_read : (parts : List (List ℕ)) (all : List Reading) (tone : Tone) → readings_of parts ≡ Ok all
    → leading all ≡ Some tone → IsRead tone.pitch
leading_read [] all tone e h =
    let none : [] ≡ all = cc in
    let no : None ≡ Some tone = subst (λ (rs : List Reading). leading rs ≡ Some tone) (sym none) h in cc
leading_read (part ∷ parts) all tone e h =
    first (note part) refl (readings_of parts) refl (λ more f g. leading_read parts more tone f g) e
  where
    tone_of : (reading : Reading) (more : List Reading) → note part ≡ Ok reading → readings_of parts ≡ Ok more
        → (leading more ≡ Some tone → IsRead tone.pitch) → (p : Option Spelled) → reading.pitch ≡ p
        → or_tone p reading.continued (leading more) ≡ Some tone → IsRead tone.pitch
    tone_of reading more is rest onward None at g = onward g
    tone_of reading more is rest onward (Some p) at g =
        let same : p ≡ tone.pitch = cc in subst IsRead same (read_pitch part reading p (sym is) at)

    first : (r : Result Reading KernFault) → note part ≡ r → (rest : Result (List Reading) Rule) → readings_of parts ≡ rest
        → ((more : List Reading) → readings_of parts ≡ Ok more → leading more ≡ Some tone → IsRead tone.pitch)
        → with_reading r rest ≡ Ok all → IsRead tone.pitch
    first (Ok reading) is (Ok more) rest onward e =
        let same : reading ∷ more ≡ all = cc in
        tone_of reading more is rest (onward more rest) reading.pitch refl
        (subst (λ (rs : List Reading). leading rs ≡ Some tone) (sym same) h)
    first (Ok reading) is (Err rule) rest onward e = cc
    first (Err fault) is rest at onward e = cc

-- and the note that is remembered

abbrev pub IsReadIf : Option Spelled → Type 0
IsReadIf None = Unit {0}
IsReadIf (Some p) = IsRead p

new_read : (parts : List (List ℕ)) (all : List Reading) → readings_of parts ≡ Ok all → IsReadIf (new_pitch (leading all))
new_read parts all e = by (leading all) refl
  where
    over : (tone : Tone) → IsRead tone.pitch → (b : Bool) → IsReadIf (cond b None (Some tone.pitch))
    over tone h true = tt
    over tone h false = h

    by : (o : Option Tone) → leading all ≡ o → IsReadIf (new_pitch o)
    by None h = tt
    by (Some tone) h = over tone (leading_read parts all tone e h) tone.continued

remembered_read : (token : List ℕ) → IsReadIf (remembered_of token)
remembered_read token = by (is_filled token && not (is_barline token))
  where
    in_it : (r : Result (List Reading) Rule) → readings token ≡ r → IsReadIf (pitch_in r)
    in_it (Ok all) e = new_read (subtokens token) all e
    in_it (Err rule) e = tt

    by : (b : Bool) → IsReadIf (cond b (pitch_in (readings token)) None)
    by true = in_it (readings token) refl
    by false = tt

pub before_read : (breaks : Option (List ℕ)) (above : List (List ℕ)) → IsReadIf (note_before breaks above)
before_read breaks above = by (find (settles breaks) (reach above))
  where
    unless : (token : List ℕ) (b : Bool) → IsReadIf (cond b None (remembered_of token))
    unless token true = tt
    unless token false = remembered_read token

    by : (o : Option (List ℕ)) → IsReadIf (settled breaks o)
    by None = tt
    by (Some token) = unless token (is_break breaks token)
