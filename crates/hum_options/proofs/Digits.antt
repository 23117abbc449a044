-- Numbers and their digits.
use Rattle.std.proofs.lemmas.Grind.{common_steps}
use Rattle.std.proofs.Common.{◌≡◌, ◌<◌, ◌≤◌, ◌+◌, ◌-◌, ◌*◌, ◌^◌, ◌==◌, ◌&&◌, refl, ap, sym, ◌∙◌, ℕ, suc, true}
use Rattle.std.proofs.Common.{false, List, [], ◌∷◌, ◌++◌, length, drop, drop-cons, get_or, arith, None, Some, Option}
use Rattle.std.specs.Prelude.{nat_le, decimal}
use Rattle.std.specs.Str.{all_ascii_digits}
use Rattle.std.specs.Char.{is_ascii_digit}
use Rattle.std.proofs.lemmas.Bool.{and_parts, and_right, leb-true, le-leb, lt-leb, ne_eqb, or_from}
use Rattle.std.proofs.lemmas.Bool.Decides.{nat_tests}
use Rattle.std.proofs.lemmas.Fmt.{decimal_digit, decimal_nonempty, first_decimal, digits_decimal}
use Rattle.std.proofs.lemmas.Fmt.{digits_value-decimal, decimal-digits_value}
use Rattle.hum_kern.specs.Value.{number_from}
use Rattle.hum_kern.proofs.Decimals.{own}
use Rattle.hum_kern.proofs.Laws.{number_from-le}
use Rattle.hum_score.specs.Spelling.{has_byte}
use Rattle.hum_options.specs.Numbers.{IsNumber, IsPositive, is_plain, digits_of, number_of, positive_of, above_zero}
use Rattle.hum_options.proofs.Choices.{chosen}

-- one digit more makes it too great, and others don't help
pub goes_over : (most n : ℕ) (text : List ℕ) (i : ℕ) → i < length text
    → number_from n (drop i text) ≡ number_from 0 text → most < 10 * n + (get_or text i 0 - 48)
    → None ≡ digits_of most text
goes_over = grind (arith, nat_tests, get_or, drop-cons, number_from-le, and_right, lt-leb)

record IsPlain (text : List ℕ) : Type 0 where
  filled : 0 < length text
  first : get_or text 0 0 ≡ 48 → length text ≡ 1

plain_is : (text : List ℕ) → is_plain text ≡ true → IsPlain text
plain_is = grind (arith, nat_tests)

plain_from : (text : List ℕ) → 0 < length text → 48 < get_or text 0 0 → is_plain text ≡ true
plain_from = grind (arith, nat_tests)

-- what is read is the number's digits
pub number_is : {most : ℕ} {text : List ℕ} {n : ℕ} → most < 2 ^ 64 → number_of most text ≡ Some n → IsNumber most text n
number_is {most} {text} {n} small e =
    let plain = chosen (is_plain text) (digits_of most text) n e in
    let read = chosen (all_ascii_digits text && nat_le (number_from 0 text) most) (Some (number_from 0 text)) n plain.1
    in
    let tests = and_parts (all_ascii_digits text) (nat_le (number_from 0 text) most) read.0 in
    let value : number_from 0 text ≡ n = cc in
    let parts = plain_is text plain.0 in
    let within : number_from 0 text ≤ most = leb-true _ _ tests.1 in
    let fits : number_from 0 text < 2 ^ 64 = omega (arith, within, small) in
    record {
      digits = sym (decimal-digits_value own text tests.0 parts.filled parts.first fits) ∙ ap decimal value;
      within = omega (arith, within, value);
    }

decimal_plain : (n : ℕ) → n < 2 ^ 64 → is_plain (decimal n) ≡ true
decimal_plain = grind (arith, nat_tests, decimal_digit, plain_from, decimal_nonempty, first_decimal)

module _ {most : ℕ} {text : List ℕ} {n : ℕ} (small : most < 2 ^ 64) (h : IsNumber most text n) where
  fits : n < 2 ^ 64
  fits = omega (arith, h.within, small)

  -- the digits of a number are read as it
  pub number_alone : number_of most text ≡ Some n
  number_alone =
      grind (arith, nat_tests, decimal_plain, fits, digits_decimal, own, digits_value-decimal, le-leb)

  pub number_digits : all_ascii_digits text ≡ true
  number_digits = rw h.digits (digits_decimal own n fits)

-- a digit is no byte below `0`
pub other_byte : (byte b : ℕ) (bytes : List ℕ) → byte < 48 → all_ascii_digits (b ∷ bytes) ≡ true → (b == byte) ≡ false
other_byte = grind (arith, nat_tests)

-- none of its bytes is below `0`
pub digits_lack : (byte : ℕ) (text : List ℕ) → byte < 48 → all_ascii_digits text ≡ true → has_byte byte text ≡ false
digits_lack byte [] low all = refl
digits_lack byte (b ∷ text) low all = or_from (b == byte) (has_byte byte text) (other_byte byte b text low all)
    (digits_lack byte text low (and_parts (is_ascii_digit b) (all_ascii_digits text) all).1)

pub number_lacks : {most : ℕ} {text : List ℕ} {n : ℕ} (byte : ℕ) → most < 2 ^ 64 → byte < 48 → IsNumber most text n
    → has_byte byte text ≡ false
number_lacks {most} {text} byte small low h = digits_lack byte text low (number_digits small h)

-- numbers from 1
pub positive_is : {most : ℕ} {text : List ℕ} {n : ℕ} → most < 2 ^ 64 → positive_of most text ≡ Some n
    → IsPositive most text n
positive_is {most} {text} {n} small e = by_number (number_of most text) refl e
  where
    by_number : (o : Option ℕ) → number_of most text ≡ o → above_zero o ≡ Some n → IsPositive most text n
    by_number (Some (suc m)) was e =
        let other : (suc m == 0) ≡ false = grind (arith, nat_tests) in
        let told : Some (suc m) ≡ Some n = rw other at e in
        let same : suc m ≡ n = cc in
        record { number = number_is small (was ∙ told); above = omega (arith, same) }
    by_number o h k = grind (arith, nat_tests)

pub positive_alone : {most : ℕ} {text : List ℕ} {n : ℕ} → most < 2 ^ 64 → IsPositive most text n
    → positive_of most text ≡ Some n
positive_alone = grind (arith, nat_tests, number_alone, ne_eqb)

pub joined_lack : (byte : ℕ) (xs ys : List ℕ) → has_byte byte xs ≡ false → has_byte byte ys ≡ false
    → has_byte byte (xs ++ ys) ≡ false
joined_lack = grind (arith, common_steps)
