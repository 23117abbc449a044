-- What is given in the place of a token is a lawful one.
use Rattle.std.proofs.Common.{◌≡◌, refl, sym, ◌∙◌, ℕ, ◌≤◌, ◌<◌, ◌==◌, ◌^◌, Bool, true, false, ◌&&◌}
use Rattle.std.proofs.Common.{ℤ, pos, negsuc, ◌+ℤ◌, ◌-ℤ◌, ◌*ℤ◌, List, [], ◌∷◌, ◌++◌, length, Option, None, Some, subst, arith}
use Rattle.std.specs.Prelude.{Result, Ok, nat_lt, if◌then◌else◌}
use Rattle.std.specs.List.{AllByRecursion, position}
use Rattle.std.specs.Fmt.{signed_decimal}
use Rattle.std.specs.Int.Signed.{mag}
use Rattle.std.proofs.lemmas.Int.{ints}
use Rattle.std.proofs.lemmas.Bool.{or_parts}
use Rattle.std.proofs.lemmas.Bool.Decides.{nat_tests}
use lib.Chars.{codes}
use Rattle.hum_score.specs.declared.records.SpinedKind.TheVariants.{Values}
use Rattle.hum_score.specs.Spelling.{IsToken}
use Rattle.hum_frac.specs.Ratio.{Ratio}
use Rattle.hum_pitch.specs.Pitch.{Spelled, semitones, IsWithin, IsOctave, IsAlteration}
use Rattle.hum_pitch.specs.Spelling.{small_letters, capitals, read_small, read_capitals, altered_by}
use Rattle.hum_pitch.proofs.Steps.{natural_le}
use Rattle.hum_kern.specs.declared.KernFault.{KernFault}
use Rattle.hum_kern.specs.declared.Length.{Length}
use Rattle.hum_kern.specs.Duration.{duration}
use Rattle.hum_kern.specs.Note.{Reading, note, notation_of, is_rest, alteration_of, pitch_of}
use Rattle.hum_kern.proofs.Found.{found_in}
use Rattle.hum_stage.specs.declared.faults.Rule.{Rule}
use Rattle.hum_tones.specs.declared.part_rule.PartRule.{PartRule}
use Rattle.hum_tones.specs.declared.part_rule.PartRule.TheVariants.{Semitones, Durations, Transposed}
use Rattle.hum_tones.specs.Subtokens.{with_first, given_by, joined, if_given, rewritten, subtokens}
use Rattle.hum_tones.specs.Semits.{of_pitch, by_reading, semits_of}
use Rattle.hum_tones.specs.Recip.{written, rest_sign, by_value, by_length, recip_of}
use Rattle.hum_tones.specs.PartRule.{given}
use Rattle.hum_tones.proofs.Parts.{IsPart, IsPiece, parts_lack, are_parts}
use Rattle.hum_tones.proofs.Written.{written_piece}
use Rattle.hum_tones.proofs.Numbers.{number_piece, mag_within}
use Rattle.hum_tones.proofs.Joined.{joined_lawful}
use Rattle.hum_tones.proofs.MovedLawful.{moved_lawful}

rest_piece : IsPiece (codes "r")
rest_piece = record { part = record { one_token = refl; one_line = refl; no_line_end = refl }; filled = λ e. cc; of_kind = refl }

-- the semitones of a pitch that is read are few
signs_within : (signs : List ℕ) → length signs ≤ 7 → IsAlteration (alteration_of signs)
signs_within = grind (arith, nat_tests)

sum_within : (o a : ℤ) (n : ℕ) → IsOctave o → IsAlteration a → n ≤ 11 →
    IsWithin (negsuc 102) (((pos 12 *ℤ (o -ℤ pos 4)) +ℤ pos n) +ℤ a) (pos 102)
sum_within o a n octave alteration below = (omega (arith, ints), omega (arith, ints))

few_semitones : (letters signs : List ℕ) (p : Spelled) → length letters ≤ 8 → length signs ≤ 7 → pitch_of letters signs ≡ Some p → mag (semitones p) < 2 ^ 63
few_semitones [] signs p few less e = cc
few_semitones (b ∷ letters) signs p few less e = small (position (λ x. x == b) small_letters) e
  where
    within : IsOctave p.octave → alteration_of signs ≡ p.alteration → mag (semitones p) < 2 ^ 63
    within = grind (arith, nat_tests, mag_within, sum_within, signs_within, natural_le)

    large : (o : Option ℕ) → altered_by (read_capitals (length (b ∷ letters)) o) (Some (alteration_of signs)) ≡ Some p → mag (semitones p) < 2 ^ 63
    large None e = cc
    large (Some k) e = grind (arith, nat_tests, pos, within, ints)

    small : (o : Option ℕ) → altered_by (read_small b (length (b ∷ letters)) o) (Some (alteration_of signs)) ≡ Some p → mag (semitones p) < 2 ^ 63
    small None e = large (position (λ x. x == b) capitals) e
    small (Some k) e = grind (arith, nat_tests, pos, within, ints)

not_over : (limit n : ℕ) → nat_lt limit n ≡ false → n ≤ limit
not_over limit n h = grind (arith, nat_tests, h)

read_semitones : (part : List ℕ) (reading : Reading) (p : Spelled) → Ok reading ≡ note part → reading.pitch ≡ Some p → mag (semitones p) < 2 ^ 63
read_semitones part reading p is there =
    let found = found_in part reading p is there in
    let letters = (notation_of part).letters in
    let signs = (notation_of part).signs in
    let modest = or_parts (nat_lt 8 (length letters)) (nat_lt 7 (length signs)) found.modest in
    few_semitones letters signs p (not_over 8 (length letters) modest.0) (not_over 7 (length signs) modest.1) found.pitch

-- what a part gives may stand at the front of a data token
semits_piece : (ties : Bool) (part text : List ℕ) → semits_of ties part ≡ Ok (Some text) → IsPiece text
semits_piece ties part text e = read (note part) refl e
  where
    pitched : (reading : Reading) → note part ≡ Ok reading → (p : Option Spelled) → reading.pitch ≡ p → (out : Bool) → of_pitch out p ≡ Some text → IsPiece text
    pitched reading is None there out e = cc
    pitched reading is (Some p) there true e = cc
    pitched reading is (Some p) there false e =
        let same : signed_decimal (semitones p) ≡ text = cc in
        subst IsPiece same (number_piece (semitones p) (read_semitones part reading p (sym is) there))

    resting : (reading : Reading) → note part ≡ Ok reading → (rest : Bool)
        → (if rest then Some (codes "r") else of_pitch (ties && reading.continued) reading.pitch) ≡ Some text → IsPiece text
    resting reading is true e = let same : codes "r" ≡ text = cc in subst IsPiece same rest_piece
    resting reading is false e = pitched reading is reading.pitch refl (ties && reading.continued) e

    read : (r : Result Reading KernFault) → note part ≡ r → by_reading ties r ≡ Ok (Some text) → IsPiece text
    read = grind (arith, nat_tests, resting)

recip_piece : (part text : List ℕ) → IsPart part → recip_of part ≡ Ok (Some text) → IsPiece text
recip_piece part text lawful e = read (duration part) refl e
  where
    resting : (rest : Bool) → (if rest then Some (codes "r") else None) ≡ Some text → IsPiece text
    resting = grind (arith, nat_tests)

    valued : (found : Length) → duration part ≡ Ok found → (value : Option Ratio) → found.value ≡ value → by_value value found part ≡ Some text → IsPiece text
    valued found is None there e = resting (is_rest part) e
    valued found is (Some value) there e =
        let same : written found part ++ rest_sign part ≡ text = cc in
        subst IsPiece same (written_piece part found (sym is) (λ none. let no : Some value ≡ None = sym there ∙ none in cc) lawful)

    read : (r : Result Length KernFault) → duration part ≡ r → by_length r part ≡ Ok (Some text) → IsPiece text
    read = grind (arith, nat_tests, valued)

-- Texts that may each stand at the front of a data token are joined to one.
module _ (gives : List ℕ → Result (Option (List ℕ)) Rule) (piece : (part text : List ℕ) → IsPart part → gives part ≡ Ok (Some text) → IsPiece text) where
  are_pieces : (parts texts : List (List ℕ)) → AllByRecursion IsPart parts → given_by gives parts ≡ Ok texts → AllByRecursion IsPiece texts
  are_pieces (part ∷ parts) texts all e = go (gives part) refl (given_by gives parts) (λ others given. are_pieces parts others all.1 given) texts e
    where
      go : (r : Result (Option (List ℕ)) Rule) → gives part ≡ r → (rest : Result (List (List ℕ)) Rule)
          → ((others : List (List ℕ)) → rest ≡ Ok others → AllByRecursion IsPiece others)
          → (texts : List (List ℕ)) → with_first r rest ≡ Ok texts → AllByRecursion IsPiece texts
      go = grind (arith, nat_tests)
  are_pieces parts texts h k = grind (arith, nat_tests)

  joined_pieces : (token text : List ℕ) → rewritten gives token ≡ Ok text → IsToken Values token → IsToken Values text
  joined_pieces token text e lawful = go (given_by gives (subtokens token)) refl e
    where
      parts : AllByRecursion IsPart (subtokens token)
      parts = grind (arith, nat_tests, are_parts, parts_lack)

      go : (r : Result (List (List ℕ)) Rule) → given_by gives (subtokens token) ≡ r → if_given r ≡ Ok text → IsToken Values text
      go = grind (arith, nat_tests, joined_lawful, are_pieces, parts)

pub given_lawful : (giving : PartRule) (token text : List ℕ) → given giving token ≡ Ok text → IsToken Values token → IsToken Values text
given_lawful (Semitones ties) token text e lawful = joined_pieces (semits_of ties) (λ part made is given. semits_piece ties part made given) token text e lawful
given_lawful Durations token text e lawful = joined_pieces recip_of recip_piece token text e lawful
given_lawful (Transposed way) token text e lawful = moved_lawful way.steps way.semitones token text e lawful
