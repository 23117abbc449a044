-- Parts of a whole note in decimal.
use Rattle.std.proofs.lemmas.Grind.{common_steps}
use Rattle.std.proofs.Common.{◌≡◌, ◌∙◌, sym, ap, ℕ, ◌<◌, ◌≤◌, ◌^◌, true, false}
use Rattle.std.proofs.Common.{List, length, get_or, Some, arith, rules}
use Rattle.std.specs.Prelude.{decimal}
use Rattle.std.specs.Str.{all_ascii_digits}
use Rattle.std.proofs.lemmas.Bool.Decides.{nat_tests}
use Rattle.std.proofs.lemmas.Fmt.{first_decimal, digits_value-decimal, decimal-digits_value}
use Rattle.std.proofs.lemmas.Str.Parse.{IsNumeralModel, numerals_by_fold}
use Rattle.hum_kern.specs.Runs.{starts_with}
use Rattle.hum_kern.specs.Value.{number, number_from, part_of, one_by}
use Rattle.hum_kern.specs.Laws.{IsPartInDecimal}

pub own : IsNumeralModel (λ ds. all_ascii_digits ds ≡ true) (number_from 0)
own = numerals_by_fold _ (search rules) number_from (search rules)

-- what is a part passes its tests
record Passes (digits : List ℕ) (n : ℕ) : Type 0 where
  first : starts_with 48 digits ≡ false
  is : number digits ≡ n
  some : 0 < n
  most : n ≤ 4096

passes : (digits : List ℕ) (n : ℕ) → part_of digits ≡ Some n → Passes digits n
passes = grind (arith, nat_tests)

filled : (digits : List ℕ) → 0 < number digits → 0 < length digits
filled = grind (arith, common_steps)

no_zero_first : (digits : List ℕ) → starts_with 48 digits ≡ false → get_or digits 0 0 ≡ 48 → length digits ≡ 1
no_zero_first = grind (arith, nat_tests)

pub in_decimal : (digits : List ℕ) (n : ℕ) → all_ascii_digits digits ≡ true → part_of digits ≡ Some n
    → (digits ≡ decimal n) × (0 < n) × (n ≤ 4096)
in_decimal digits n all h =
    let w = passes digits n h in
    let is = w.is in
    let some = w.some in
    let most = w.most in
    let low : 0 < number digits = omega (arith, is, some) in
    let fits : number digits < 2 ^ 64 = omega (arith, is, most) in
    let e = decimal-digits_value own digits all (filled digits low) (no_zero_first digits w.first) fits in
    (sym e ∙ ap decimal w.is, w.some, w.most)

pub above_zero : (digits : List ℕ) → 48 < get_or digits 0 0 → starts_with 48 digits ≡ false
above_zero = grind (arith, nat_tests)

pub part_in_decimal : (n : ℕ) → 0 < n → n ≤ 4096 → part_of (decimal n) ≡ Some n
part_in_decimal = grind (arith, nat_tests, digits_value-decimal, own, above_zero, first_decimal)

pub parts_are_decimal : (digits : List ℕ) (n : ℕ) → all_ascii_digits digits ≡ true → IsPartInDecimal digits n
parts_are_decimal digits n all = (in_decimal digits n all, λ w. rw w.0 (part_in_decimal n w.1 w.2))

pub one_by_part : (n : ℕ) → 0 < n → n ≤ 4096 → one_by (decimal n) ≡ Some (record { top = 1; bottom = n })
one_by_part = grind (arith, nat_tests, digits_value-decimal, own, above_zero, first_decimal)
