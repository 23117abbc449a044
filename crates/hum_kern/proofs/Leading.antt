-- Tokens that are one subtoken and begin with their digits.
use Rattle.std.proofs.lemmas.Grind.{common_steps}
use Rattle.std.proofs.lemmas.Bool.Decides.{nat_tests}
use Rattle.std.proofs.Common.{◌≡◌, ℕ, ◌==◌, Bool, true, false, List, [], ◌∷◌, ◌++◌, length, refl, sym, ap, ◌∙◌, arith}
use Rattle.std.proofs.Common.{add-one, not, ◌&&◌}
use Rattle.std.specs.List.{list_any, AllByRecursion}
use Rattle.hum_kern.specs.declared.runs.Class.TheVariants.{Digit, Other}
use Rattle.hum_kern.specs.Runs.{run, front, behind}
use Rattle.hum_kern.specs.Classes.{is_in, is_digit, is_grace_sign, is_divider}
use Rattle.hum_kern.specs.Duration.{spelling, spelling_of, is_empty, said, said_of, duration}
use Rattle.hum_kern.specs.Subtokens.{subtokens, leads}

-- No space stands in it, nor the sign of a grace note.
pub record IsPlain (bytes : List ℕ) : Type 0 where
  pub graceless : list_any is_grace_sign bytes ≡ false
  pub alone : subtokens bytes ≡ bytes ∷ []

more_plain : (b : ℕ) (bytes : List ℕ) → (b == 32) ≡ false → is_grace_sign b ≡ false → IsPlain bytes → IsPlain (b ∷ bytes)
more_plain = grind (arith, nat_tests)

undivided : (bytes : List ℕ) → list_any is_divider bytes ≡ false → IsPlain bytes
undivided [] none = record { graceless = refl; alone = refl }
undivided (b ∷ bytes) none = grind (arith, nat_tests, undivided bytes)

-- a digit is neither
digit_plain : (b : ℕ) → is_digit b ≡ true → ((b == 32) ≡ false) × (is_grace_sign b ≡ false)
digit_plain b digit = (grind (arith, digit), grind (arith, digit))

-- nor is it where digits stand in front
pub digits_plain : (digits rest : List ℕ) → AllByRecursion (λ b. is_digit b ≡ true) digits → list_any is_divider rest ≡ false → IsPlain (digits ++ rest)
digits_plain [] rest all none = undivided rest none
digits_plain (b ∷ digits) rest all none = grind (arith, nat_tests, digits_plain digits rest all.1 none)

behind_more : (b : ℕ) (bytes : List ℕ) → is_digit b ≡ true
    → behind (is_in Digit) (b ∷ bytes) ≡ behind (is_in Digit) bytes
behind_more b bytes e = rw (e, add-one) refl

-- nor has it what stands in front of the digits' end
pub leading_plain : (bytes : List ℕ) → list_any is_divider (behind (is_in Digit) bytes) ≡ false → IsPlain bytes
leading_plain [] none = record { graceless = refl; alone = refl }
leading_plain (b ∷ bytes) none = go (leading_plain bytes) (is_digit b) refl
  where
    go : (list_any is_divider (behind (is_in Digit) bytes) ≡ false → IsPlain bytes) → (t : Bool)
        → is_digit b ≡ t → IsPlain (b ∷ bytes)
    go = grind (arith, nat_tests, digit_plain, more_plain, behind_more, undivided)

-- What begins with digits has nothing before them.
begins : (bytes : List ℕ) → is_empty (front (is_in Digit) bytes) ≡ false → run (is_in Other) bytes ≡ 0
begins = grind (arith, nat_tests)

leading_spelling : (bytes : List ℕ) → is_empty (front (is_in Digit) bytes) ≡ false
    → spelling_of bytes ≡ spelling [] (front (is_in Digit) bytes) (behind (is_in Digit) bytes)
leading_spelling = grind (arith, nat_tests, begins)

pub leading_duration : (bytes : List ℕ) → is_empty (front (is_in Digit) bytes) ≡ false
    → list_any is_divider (behind (is_in Digit) bytes) ≡ false
    → said (spelling [] (front (is_in Digit) bytes) (behind (is_in Digit) bytes)) ≡ duration bytes
leading_duration bytes some none =
    let parts = spelling [] (front (is_in Digit) bytes) (behind (is_in Digit) bytes) in
    let told : said_of bytes parts ≡ said parts = rw ((leading_plain bytes none).graceless, some) refl in
    sym told ∙ sym (ap (said_of bytes) (leading_spelling bytes some))

-- Which these are

any_behind : (bytes : List ℕ) → list_any is_divider (behind (is_in Digit) bytes) ≡ list_any is_divider bytes
any_behind [] = refl
any_behind (b ∷ bytes) = grind (arith, common_steps, any_behind bytes)

leads_first : (b : ℕ) (bytes : List ℕ) (t : Bool) → is_digit b ≡ t
    → leads (b ∷ bytes) ≡ (not (is_empty (front (is_in Digit) (b ∷ bytes))) && not (list_any is_divider (b ∷ bytes)))
leads_first b bytes true e = let plain = digit_plain b e in rw (e, plain.0, plain.1, add-one) refl
leads_first b bytes false e = rw e refl

pub leads_by : (bytes : List ℕ) → leads bytes
    ≡ (not (is_empty (front (is_in Digit) bytes)) && not (list_any is_divider (behind (is_in Digit) bytes)))
leads_by = grind (arith, nat_tests, leads_first, any_behind)

pub empty_is : (bytes : List ℕ) → (length bytes == 0) ≡ is_empty bytes
empty_is = grind (arith, nat_tests)

pub not_empty : (bytes : List ℕ) → (length bytes == 0) ≡ false → is_empty bytes ≡ false
not_empty = grind (arith, nat_tests)
