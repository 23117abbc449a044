-- The name of an interval, and a pitch in brackets, may stand as a token.
use Rattle.std.proofs.lemmas.Bool.Decides.{nat_tests}
use Rattle.std.proofs.Common.{◌≡◌, ◌≢◌, refl, ℕ, ℤ, pos, ◌-ℤ◌, ◌<◌, ◌≤◌, ◌^◌, Bool, false, List, [], ◌∷◌, ◌++◌, arith, Option, None, Some}
use Rattle.std.specs.Prelude.{cond, option_map}
use Rattle.std.specs.Fmt.{decimal}
use Rattle.std.specs.Int.Signed.{mag}
use Rattle.std.proofs.lemmas.Int.{ints}
use lib.Chars.{codes}
use Rattle.hum_score.specs.declared.records.SpinedKind.TheVariants.{Values}
use Rattle.hum_score.specs.Spelling.{has_byte, kind_of_token, IsToken}
use Rattle.hum_pitch.specs.Pitch.{Spelled, step_number}
use Rattle.hum_pitch.specs.Given.{spelled}
use Rattle.hum_pitch.specs.Spelling.{spelling}
use Rattle.hum_pitch.specs.Intervals.{direction, sign, quality, quality_letters, size, named}
use Rattle.hum_pitch.specs.declared.pitch.Pitch.{Pitch}
use Rattle.hum_pitch.proofs.Names.{AreOver, name_over}
use Rattle.hum_tones.specs.Mint.{approached}
use Rattle.hum_tones.proofs.Parts.{IsPiece}
use Rattle.hum_tones.proofs.MovedLawful.{both_lack, spelling_lacks}
use Rattle.hum_tones.proofs.Numbers.{number_piece}
use Rattle.hum_tones.proofs.Joined.{no_comment}

-- what may stand before the digits of an interval's size
record IsFront (front : List ℕ) : Type 0 where
  lacks : (c : ℕ) → c ≤ 32 → has_byte c front ≡ false
  kind : (more : List ℕ) → kind_of_token more ≡ Values → kind_of_token (front ++ more) ≡ Values

no_front : IsFront []
no_front = record { lacks = λ c low. refl; kind = λ more h. h }

over_front : (xs : List ℕ) → AreOver 42 xs → IsFront xs
over_front [] all = no_front
over_front (x ∷ xs) all = grind (arith, nat_tests, over_front xs all.1)

front_lawful : (front text : List ℕ) → IsFront front → IsPiece text → IsToken Values (front ++ text)
front_lawful front text f piece =
    let kind = f.kind text piece.of_kind in
    record {
      filled = some front text piece.filled;
      one_token = both_lack 9 front text (f.lacks 9 (omega arith)) piece.part.one_token;
      one_line = both_lack 13 front text (f.lacks 13 (omega arith)) piece.part.one_line;
      no_line_end = both_lack 10 front text (f.lacks 10 (omega arith)) piece.part.no_line_end;
      of_kind = kind;
      no_comment = no_comment (front ++ text) kind;
    }
  where
    some : (xs ys : List ℕ) → ys ≢ [] → xs ++ ys ≢ []
    some [] ys h = h
    some (x ∷ xs) ys h = λ e. cc

pub named_lawful : (signless sizeonly : Bool) (d s : ℤ) → mag (pos (size d)) < 2 ^ 63 → IsToken Values (named signless sizeonly d s)
named_lawful signless sizeonly d s fits =
    front_lawful (cond signless [] (sign (direction d s)) ++ cond sizeonly [] (quality_letters (quality d s))) (decimal (size d))
    (over_front (cond signless [] (sign (direction d s)) ++ cond sizeonly [] (quality_letters (quality d s))) (name_over signless sizeonly d s))
    (number_piece (pos (size d)) fits)

brackets_lawful : (p : Spelled) → p.step < 7 → IsToken Values (codes "[" ++ (spelling p ++ codes "]"))
brackets_lawful = grind (arith, nat_tests, no_comment, both_lack, spelling_lacks)

small_size : (p q : Pitch) → mag (pos (size (step_number (spelled q) -ℤ step_number (spelled p)))) < 2 ^ 63
small_size p q = let a = p.in_range in let b = q.in_range in omega (arith, ints)

pub approached_lawful : (signless sizeonly : Bool) (before : Option Pitch) (pitch : Pitch) →
    IsToken Values (approached signless sizeonly (option_map spelled before) (spelled pitch))
approached_lawful signless sizeonly None pitch = brackets_lawful (spelled pitch) pitch.in_range.0
approached_lawful signless sizeonly (Some before) pitch = grind (arith, nat_tests, named_lawful, small_size)
