-- Numbers, as they are written.
use Rattle.std.specs.Prelude.{◌≡◌, ℕ, ℤ, pos, neg_ℤ, ◌<◌, ◌≤◌, nat_le, decimal, Bool, false, not, ◌&&◌, ◌||◌, ◌==◌}
use Rattle.std.specs.Prelude.{if◌then◌else◌, List, [], ◌∷◌, Option, None, Some}
use Rattle.std.specs.Option.{option_map}
use Rattle.std.specs.Str.{all_ascii_digits}
use Rattle.hum_kern.specs.Duration.{is_empty}
use Rattle.hum_kern.specs.Value.{number}

-- The text is the digits of a number, without a zero in front. The number is at most `most`.
pub record IsNumber (most : ℕ) (text : List ℕ) (n : ℕ) : Type 0 where
  pub digits : text ≡ decimal n
  pub within : n ≤ most

-- a number from 1
pub record IsPositive (most : ℕ) (text : List ℕ) (n : ℕ) : Type 0 where
  pub number : IsNumber most text n
  pub above : 0 < n

-- a number with a sign or without
pub data IsSigned (most : ℕ) : List ℕ → ℤ → Type 0 where
  plain : {text : List ℕ} {n : ℕ} → IsNumber most text n → IsSigned most text (pos n)
  plus : {text : List ℕ} {n : ℕ} → IsNumber most text n → IsSigned most (43 ∷ text) (pos n)
  minus : {text : List ℕ} {n : ℕ} → IsNumber most text n
      → IsSigned most (45 ∷ text) (neg_ℤ (pos n))

-- some bytes, without a zero in front of others
abbrev pub is_plain : List ℕ → Bool
is_plain [] = false
is_plain (byte ∷ bytes) = not (byte == 48) || is_empty bytes

-- the number that digits write, if it is at most `most`
abbrev pub digits_of : ℕ → List ℕ → Option ℕ
digits_of most text =
    if all_ascii_digits text && nat_le (number text) most then Some (number text) else None

-- the number that a text is, if it is one
abbrev pub number_of : ℕ → List ℕ → Option ℕ
number_of most text = if is_plain text then digits_of most text else None

abbrev pub above_zero : Option ℕ → Option ℕ
above_zero None = None
above_zero (Some n) = if n == 0 then None else Some n

-- the same, from 1
abbrev pub positive_of : ℕ → List ℕ → Option ℕ
positive_of most text = above_zero (number_of most text)

abbrev pub negated : ℕ → ℤ
negated n = neg_ℤ (pos n)

-- the number with a sign or without that a text is, if it is one
abbrev pub signed_of : ℕ → List ℕ → Option ℤ
signed_of most [] = None
signed_of most (sign ∷ text) =
    if sign == 43 then option_map pos (number_of most text)
    else if sign == 45 then option_map negated (number_of most text)
    else option_map pos (number_of most (sign ∷ text))
