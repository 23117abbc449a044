-- The parts of a token that are read each by itself.
use Rattle.std.specs.Prelude.{◌≡◌, ℕ, ◌==◌, nat_lt, nat_le, Bool, true, false, not, ◌&&◌}
use Rattle.std.specs.Prelude.{List, [], ◌∷◌, Some, if◌then◌else◌}
use Rattle.std.specs.List.{slice_split, list_any}
use Rattle.hum_frac.specs.Ratio.{Ratio, reduced}
use Rattle.hum_kern.specs.Duration.{duration, value_in, is_refused}
use Rattle.hum_kern.specs.Classes.{is_digit, is_divider}

-- a token's parts between single spaces; a part may be empty
abbrev pub subtokens : List ℕ → List (List ℕ)
subtokens = slice_split (λ b. b == 32)

-- whether a token begins with a digit, and is one subtoken without the sign of a grace note
abbrev pub leads : List ℕ → Bool
leads [] = false
leads (b ∷ bytes) = is_digit b && not (list_any is_divider bytes)

-- what leaves it to the digits in front of it to tell a duration: nothing, or a byte above the digits
-- first, and no divider
abbrev pub ends_plainly : List ℕ → Bool
ends_plainly [] = true
ends_plainly (b ∷ bytes) = nat_lt 57 b && not (list_any is_divider (b ∷ bytes))

-- the same behind the first of one or two digits
abbrev pub ends_shortly : List ℕ → Bool
ends_shortly [] = true
ends_shortly (b ∷ bytes) = if is_digit b then ends_plainly bytes else ends_plainly (b ∷ bytes)

-- whether a token begins with one or two digits, the first of them no zero, and ends plainly
abbrev pub leads_shortly : List ℕ → Bool
leads_shortly [] = false
leads_shortly (b ∷ bytes) = (nat_lt 48 b && nat_le b 57) && ends_shortly bytes

-- one divided by a number, in lowest terms
abbrev pub part_of_whole : ℕ → Ratio
part_of_whole number = reduced (record { top = 1; bottom = number })

-- A token leads, and this is its duration.
pub record IsLed (token : List ℕ) (lasting : Ratio) : Type 0 where
  pub value : value_in (duration token) ≡ Some lasting
  pub read : is_refused (duration token) ≡ false
  pub alone : subtokens token ≡ token ∷ []
  pub leads : leads token ≡ true
