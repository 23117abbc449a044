-- Durations that one or two digits at the front of a token tell.
use Rattle.std.proofs.Common.{◌≡◌, ◌∙◌, ℕ, ◌+◌, ◌-◌, ◌*◌, ◌<◌, ◌≤◌, ◌==◌, List, [], ◌∷◌, length, refl, sym, ap, arith, subst}
use Rattle.std.proofs.Common.{Bool, true, false, Option, None, Some}
use Rattle.std.specs.Prelude.{is_some, IfSome, ◌++◌, if◌then◌else◌}
use Rattle.std.specs.List.{list_any}
use Rattle.std.proofs.lemmas.Bool.Decides.{nat_tests}
use Rattle.hum_frac.specs.Ratio.{Ratio, reduced}
use Rattle.hum_kern.specs.declared.runs.Class.TheVariants.{Digit}
use Rattle.hum_kern.specs.Classes.{is_in, is_digit, is_dot, is_divider, is_rest_sign}
use Rattle.hum_kern.specs.Runs.{run, front, behind}
use Rattle.hum_kern.specs.Value.{number, plain_value}
use Rattle.hum_kern.specs.Duration.{spelling, said, duration, value_in, is_refused, is_empty}
use Rattle.hum_kern.specs.Subtokens.{ends_plainly, leads_shortly, part_of_whole, IsLed}
use Rattle.hum_kern.specs.Usual.{Leading, leading}
use Rattle.hum_kern.proofs.Leading.{leading_plain, leading_duration, leads_by}

-- ---- what stands behind the digits

pub undivided : (rest : List ℕ) → ends_plainly rest ≡ true → list_any is_divider rest ≡ false
undivided = grind (arith, nat_tests)

-- its first byte
pub record IsFree (b : ℕ) : Type 0 where
  pub digit : is_digit b ≡ false
  pub percent : (b == 37) ≡ false
  pub dot : is_dot b ≡ false

pub free : (b : ℕ) (bytes : List ℕ) → ends_plainly (b ∷ bytes) ≡ true → IsFree b
free = grind (arith, nat_tests)

pub no_run : (rest : List ℕ) → ends_plainly rest ≡ true → run (is_in Digit) rest ≡ 0
no_run = grind (arith, nat_tests)

-- ---- what the digits say

record Tells (digits rest : List ℕ) (value : Ratio) : Type 0 where
  told : value_in (said (spelling [] digits rest)) ≡ Some (reduced value)
  read : is_refused (said (spelling [] digits rest)) ≡ false

tells : (digits rest : List ℕ) (value : Ratio) → ends_plainly rest ≡ true → plain_value digits ≡ Some value → Tells digits rest value
tells = grind (arith, nat_tests)

led : (token digits rest : List ℕ) (value : Ratio) → front (is_in Digit) token ≡ digits → behind (is_in Digit) token ≡ rest
    → is_empty digits ≡ false → plain_value digits ≡ Some value → ends_plainly rest ≡ true → IsLed token (reduced value)
led token digits rest value in_front at_end some is ends =
    let none : list_any is_divider (behind (is_in Digit) token) ≡ false = ap (list_any is_divider) at_end ∙ undivided rest ends in
    let begins : is_empty (front (is_in Digit) token) ≡ false = ap is_empty in_front ∙ some in
    let means : said (spelling [] digits rest) ≡ duration token =
    grind (arith, nat_tests, leading_duration) in
    let says = tells digits rest value ends is in
    record {
      value = sym (ap value_in means) ∙ says.told;
      read = sym (ap is_refused means) ∙ says.read;
      alone = (leading_plain token none).alone;
      leads = rw (leads_by token, begins, none) refl;
    }

-- ---- one digit, and two

pub digit_is : (a : ℕ) → 48 ≤ a → a ≤ 57 → is_digit a ≡ true
digit_is a above below = grind (arith, nat_tests)

-- no zero stands in front, so the number is the denominator
pub value_is : (a : ℕ) (digits : List ℕ) → 48 < a → 0 < number (a ∷ digits) → number (a ∷ digits) ≤ 4096
    → plain_value (a ∷ digits) ≡ Some (record { top = 1; bottom = number (a ∷ digits) })
value_is = grind (arith, nat_tests)

one_number : (a : ℕ) (rest : List ℕ) → 48 < a → a ≤ 57 → ends_plainly rest ≡ true
    → IsLed (a ∷ rest) (part_of_whole (number (a ∷ [])))
one_number a rest above below ends =
    let digit = digit_is a (omega arith) below in
    let none = no_run rest ends in
    led (a ∷ rest) (a ∷ []) rest _ (rw (digit, none) refl) (rw (digit, none) refl)
    refl (value_is a [] above (omega (arith, above)) (omega (arith, below))) ends

two_numbers : (a b : ℕ) (rest : List ℕ) → 48 < a → a ≤ 57 → 48 ≤ b → b ≤ 57 → ends_plainly rest ≡ true
    → IsLed (a ∷ b ∷ rest) (part_of_whole (number (a ∷ b ∷ [])))
two_numbers a b rest above below least most ends =
    let first = digit_is a (omega arith) below in
    let second = digit_is b least most in
    let none = no_run rest ends in
    led (a ∷ b ∷ rest) (a ∷ b ∷ []) rest _ (rw (first, second, none) refl) (rw (first, second, none) refl)
    refl (value_is a (b ∷ []) above (omega (arith, above)) (omega (arith, below, most))) ends

one_digit : (a n : ℕ) (rest : List ℕ) → 48 < a → a ≤ 57 → n ≡ a - 48 → ends_plainly rest ≡ true → IsLed (a ∷ rest) (part_of_whole n)
one_digit a n rest above below is ends =
    let same : number (a ∷ []) ≡ n = omega (arith, is) in
    subst (λ k. IsLed (a ∷ rest) (part_of_whole k)) same (one_number a rest above below ends)

two_digits : (a b n : ℕ) (rest : List ℕ) → 48 < a → a ≤ 57 → 48 ≤ b → b ≤ 57 → n ≡ 10 * (a - 48) + (b - 48) → ends_plainly rest ≡ true
    → IsLed (a ∷ b ∷ rest) (part_of_whole n)
two_digits a b n rest above below least most is ends =
    let same : number (a ∷ b ∷ []) ≡ n = omega (arith, is) in
    subst (λ k. IsLed (a ∷ b ∷ rest) (part_of_whole k)) same (two_numbers a b rest above below least most ends)

-- ---- what a token begins with

-- one digit or two
abbrev chosen : Bool → ℕ → ℕ → List ℕ → Leading
chosen two a b bytes =
    if two then record { number = 10 * (a - 48) + (b - 48); digits = 2; rest = bytes }
    else record { number = a - 48; digits = 1; rest = b ∷ bytes }

-- how a token is cut that begins so
pub record IsCut (token : List ℕ) (found : Leading) : Type 0 where
  pub front : List ℕ
  pub whole : token ≡ front ++ found.rest
  pub size : length front ≡ found.digits
  pub restless : list_any is_rest_sign front ≡ false

digit_restless : (b : ℕ) → b ≤ 57 → is_rest_sign b ≡ false
digit_restless b below = grind (arith, nat_tests)

-- What holds of each such token holds of what a token begins with.
module _ (P : List ℕ → Leading → Type 0)
    (one : (a : ℕ) (rest : List ℕ) → 48 < a → a ≤ 57 → P (a ∷ rest) (record { number = a - 48; digits = 1; rest = rest }))
    (two : (a b : ℕ) (rest : List ℕ) → 48 < a → a ≤ 57 → 48 ≤ b → b ≤ 57
    → P (a ∷ b ∷ rest) (record { number = 10 * (a - 48) + (b - 48); digits = 2; rest = rest })) where
  pub leading_holds : (token : List ℕ) (found : Leading) → leading token ≡ Some found → P token found
  leading_holds = grind (arith, nat_tests)

pub leading_cut : (token : List ℕ) (found : Leading) → leading token ≡ Some found → IsCut token found
leading_cut token found is =
    leading_holds IsCut
    (λ a rest above below. record { front = a ∷ []; whole = refl; size = refl; restless = rw (digit_restless a below) refl })
    (λ a b rest above below least most. record {
      front = a ∷ b ∷ [];
      whole = refl;
      size = refl;
      restless = rw (digit_restless a below, digit_restless b most) refl;
    }) token found is

pub leading_led : (token : List ℕ) (found : Leading) → leading token ≡ Some found → ends_plainly found.rest ≡ true
    → IsLed token (part_of_whole found.number)
leading_led token found is =
    leading_holds (λ token found. ends_plainly found.rest ≡ true → IsLed token (part_of_whole found.number))
    (λ a rest above below ends. one_digit a (a - 48) rest above below refl ends)
    (λ a b rest above below least most ends. two_digits a b (10 * (a - 48) + (b - 48)) rest above below least most refl ends) token found is

-- whether what it begins with ends plainly
abbrev ends_by : Option Leading → Bool
ends_by (Some found) = ends_plainly found.rest
ends_by None = false

shortly_is : (token : List ℕ) → leads_shortly token ≡ ends_by (leading token)
shortly_is = grind (arith, nat_tests)

-- ---- what is answered

pub none_leads : (token : List ℕ) → None ≡ leading token → false ≡ leads_shortly token
none_leads token is = ap ends_by is ∙ sym (shortly_is token)

pub some_leads : (token : List ℕ) (found : Leading) (part : Option Ratio) → Some found ≡ leading token → is_some part ≡ ends_plainly found.rest
    → is_some part ≡ leads_shortly token
some_leads token found part is ends = ends ∙ ap ends_by is ∙ sym (shortly_is token)

pub answered_led : (token : List ℕ) (found : Leading) (part : Option Ratio) → Some found ≡ leading token → is_some part ≡ ends_plainly found.rest
    → IfSome part (λ lasting. lasting ≡ part_of_whole found.number) → IfSome part (IsLed token)
answered_led = grind (arith, nat_tests, leading_led)
