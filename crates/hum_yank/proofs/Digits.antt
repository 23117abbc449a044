-- Digits and their values.
use Rattle.std.proofs.Common.{◌≡◌, refl, ℕ, ◌+◌, ◌*◌, ◌-◌, ◌≤◌, ◌<◌, true, false}
use Rattle.std.proofs.Common.{length, List, [], ◌∷◌, arith, None}
use Rattle.std.proofs.lemmas.Bool.Decides.{nat_tests}
use Rattle.std.specs.Prelude.{slice_index_or}
use Rattle.std.specs.List.{list_any, take_while}
use Rattle.hum_score.specs.Row.{Row}
use Rattle.hum_yank.specs.Passages.{value_of, at_most, has_value, passes, is_digit}

-- more digits make it no less
pub value_grows : (n : ℕ) (digits : List ℕ) → n ≤ value_of n digits
value_grows n [] = omega arith
value_grows n (digit ∷ digits) = grind (arith, nat_tests, value_grows (10 * n + (digit - 48)) digits)

pub too_great : (n total : ℕ) (digits : List ℕ) → 4294967295 < n → value_of n digits ≡ total → None
    ≡ at_most total
too_great = grind (arith, nat_tests, value_grows)

none_any : (tokens : List (List ℕ)) → list_any (passes (λ t. false)) tokens ≡ false
none_any [] = refl
none_any (t ∷ ts) = grind (arith, nat_tests, none_any ts)

pub none_has : (row : Row) → has_value (λ t. false) row ≡ false
none_has = grind (arith, nat_tests, none_any)

taken : (b : ℕ) (bs : List ℕ) → is_digit b ≡ true → take_while is_digit (b ∷ bs) ≡ b ∷ take_while
    is_digit bs
taken = grind (arith, nat_tests)

-- one digit makes it too great, and more don't help
pub goes_over : (n total : ℕ) (rest : List ℕ) → 1 ≤ length rest → is_digit (slice_index_or rest 0 0)
    ≡ true
    → 4294967295 < n * 10 + (slice_index_or rest 0 0 - 48) → value_of n (take_while is_digit rest)
    ≡ total → None ≡ at_most total
goes_over n total [] filled digit over is = absurd (omega (arith, filled))
goes_over n total (b ∷ bs) filled digit over is = grind (arith, nat_tests, too_great, taken)
