-- Numbers, as they are written, may stand in a token.
use Rattle.std.proofs.lemmas.Grind.{common_steps}
use Rattle.std.proofs.Common.{◌≡◌, ◌≢◌, refl, ℕ, zero, suc, ◌+◌, ◌≤◌, ◌<◌, ◌/◌, ◌%◌, ◌^◌}
use Rattle.std.proofs.Common.{false, List, [], ◌∷◌, ◌++◌, arith}
use Rattle.std.specs.Prelude.{ℤ, pos, negsuc}
use Rattle.std.specs.List.{AllByRecursion}
use Rattle.std.specs.Fmt.{decimal, signed_decimal}
use Rattle.std.specs.Int.Signed.{mag}
use Rattle.std.proofs.lemmas.List.Folds.{list_any-append}
use Rattle.std.proofs.lemmas.Fmt.{decimal_digit, decimal_step}
use Rattle.std.proofs.lemmas.Bool.Decides.{nat_tests, leb_tells}
use mathlib.Core.Logic.{inl, inr}
use Rattle.hum_score.specs.declared.records.SpinedKind.TheVariants.{Interpretation}
use Rattle.hum_score.specs.Spelling.{has_byte, IsToken}
use Rattle.hum_pitch.specs.Pitch.{IsWithin}
use Rattle.hum_tones.proofs.Parts.{IsPiece}
use lib.Chars.{codes}

record IsDigit (b : ℕ) : Type 0 where
  low : 48 ≤ b
  high : b ≤ 57

push_all : (P : ℕ → Type 0) (xs : List ℕ) (x : ℕ) → AllByRecursion P xs → P x → AllByRecursion P (xs ++ x ∷ [])
push_all = grind (arith, common_steps)

some_push : (xs : List ℕ) (x : ℕ) → xs ++ x ∷ [] ≢ []
some_push = grind (arith, common_steps)

record AreDigits (text : List ℕ) : Type 0 where
  all : AllByRecursion IsDigit text
  some : text ≢ []

digits_of : (fuel n : ℕ) → n < fuel → n < 2 ^ 64 → AreDigits (decimal n)
digits_of zero n below fits = absurd (omega (arith, below))
digits_of (suc fuel) n below fits = elim (leb_tells 10 n) [
  | inl told ↦ (
      let large = told.1 in
      let more = digits_of fuel (n / 10) (omega (arith, below, large)) (omega (arith, fits, large)) in
      rw (decimal_step n large fits) (record {
        all = grind (arith, nat_tests, push_all);
        some = grind (arith, nat_tests, some_push);
      })
      )
  | inr small ↦ grind (arith, nat_tests, decimal_digit)
]

digits_lack : (c : ℕ) (text : List ℕ) → c < 48 → AllByRecursion IsDigit text → has_byte c text ≡ false
digits_lack c [] low all = refl
digits_lack c (x ∷ text) low all = grind (arith, nat_tests, digits_lack c text low all.1)

digits_piece : (text : List ℕ) → AreDigits text → IsPiece text
digits_piece = grind (arith, nat_tests, digits_lack)

-- numbers of one digit and of two
pub one_digit : (n : ℕ) → n < 10 → decimal n ≡ (48 + n) ∷ []
one_digit n small = decimal_digit n (omega (arith, small))

pub two_digits : (n : ℕ) → 10 ≤ n → n < 100 → decimal n ≡ (48 + n / 10) ∷ (48 + n % 10) ∷ []
two_digits = grind (arith, nat_tests, decimal_step, decimal_digit)

pub three_digits : (n : ℕ) → 100 ≤ n → n < 1000 → decimal n ≡ (48 + n / 10 / 10) ∷ (48 + n / 10 % 10) ∷ (48 + n % 10) ∷ []
three_digits = grind (arith, nat_tests, decimal_step, two_digits)

-- a number with its sign
pub number_piece : (z : ℤ) → mag z < 2 ^ 63 → IsPiece (signed_decimal z)
number_piece = grind (arith, nat_tests, digits_piece, digits_of, digits_lack)

pub mag_within : (z : ℤ) → IsWithin (negsuc 102) z (pos 102) → mag z < 2 ^ 63
mag_within = grind (arith, nat_tests)

lacks_number : (c : ℕ) (z : ℤ) → c < 45 → mag z < 2 ^ 63 → has_byte c (signed_decimal z) ≡ false
lacks_number = grind (arith, nat_tests, digits_lack, digits_of)

lacks_sign : (c : ℕ) (n m : ℤ) → has_byte c (codes "*Trd") ≡ false → has_byte c (codes "c") ≡ false → c < 45 → mag n < 2 ^ 63 → mag m < 2 ^ 63
    → has_byte c (codes "*Trd" ++ (signed_decimal n ++ (codes "c" ++ signed_decimal m))) ≡ false
lacks_sign = grind (arith, nat_tests, list_any-append, lacks_number)

steps_small : (z : ℤ) → IsWithin (negsuc 48) z (pos 49) → mag z < 2 ^ 63
steps_small = grind (arith, nat_tests)

semitones_small : (z : ℤ) → IsWithin (negsuc 83) z (pos 84) → mag z < 2 ^ 63
semitones_small = grind (arith, nat_tests)

-- what goes behind **kern is a lawful interpretation
pub sign_lawful : (n m : ℤ) → IsWithin (negsuc 48) n (pos 49) → IsWithin (negsuc 83) m (pos 84)
    → IsToken Interpretation (codes "*Trd" ++ (signed_decimal n ++ (codes "c" ++ signed_decimal m)))
sign_lawful n m f g =
    let small = steps_small n f in
    let few = semitones_small m g in
    record {
      filled = λ e. cc;
      one_token = lacks_sign 9 n m refl refl (omega arith) small few;
      one_line = lacks_sign 13 n m refl refl (omega arith) small few;
      no_line_end = lacks_sign 10 n m refl refl (omega arith) small few;
      of_kind = refl;
      no_comment = refl;
    }
