-- What subtokens say that are as most are.
use Rattle.std.specs.Prelude.{◌≡◌, ◌+◌, ◌-◌, ◌*◌, ◌==◌, nat_lt, nat_le, not, ◌&&◌, ◌||◌, ◌++◌, take, drop}
use Rattle.std.specs.Prelude.{ℕ, Bool, true, false, List, [], ◌∷◌, Option, None, Some, Ok, if◌then◌else◌}
use Rattle.std.specs.List.{list_any}
use Rattle.hum_frac.specs.Ratio.{Ratio, reduced}
use Rattle.hum_kern.specs.declared.Length.{Length}
use Rattle.hum_kern.specs.declared.short_durations.LeadingNumber.{LeadingNumber}
use Rattle.hum_kern.specs.Classes.{is_digit, is_divider, is_continued_sign, is_rest_sign}
use Rattle.hum_kern.specs.Value.{dotted}
use Rattle.hum_kern.specs.Duration.{duration, is_empty}
use Rattle.hum_kern.specs.Note.{Reading, note, is_rest}
use Rattle.hum_kern.specs.Subtokens.{subtokens, ends_plainly}

-- A token is one subtoken, and that says this.
pub record IsReadAlone (token : List ℕ) (found : Reading) : Type 0 where
  pub read : Ok found ≡ note token
  pub alone : subtokens token ≡ token ∷ []

-- whether the last byte, if there is one, says that a tie goes on or ends; none where it is another, or
-- more stand there
abbrev pub tie_at_end : List ℕ → Option Bool
tie_at_end [] = Some false
tie_at_end (b ∷ []) = if is_continued_sign b then Some true else None
tie_at_end (b ∷ c ∷ bytes) = None

-- one or two digits at the front of a token, the first of them no zero: the number that they write, how
-- many they are, and what stands behind them
pub record Leading : Type 0 where
  pub number : ℕ
  pub digits : ℕ
  pub rest : List ℕ

abbrev pub leading_of : LeadingNumber → Leading
leading_of found = record { number = found.number; digits = found.digits; rest = found.rest.now }

abbrev pub behind_digit : ℕ → List ℕ → Leading
behind_digit a [] = record { number = a - 48; digits = 1; rest = [] }
behind_digit a (b ∷ bytes) =
    if is_digit b then record { number = 10 * (a - 48) + (b - 48); digits = 2; rest = bytes }
    else record { number = a - 48; digits = 1; rest = b ∷ bytes }

abbrev pub leading : List ℕ → Option Leading
leading [] = None
leading (a ∷ bytes) = if nat_lt 48 a && nat_le a 57 then Some (behind_digit a bytes) else None

-- how many dots, none or one, stand in front of what leaves it to the digits and dots to tell a duration; none
-- where it doesn't
abbrev pub short_dots : List ℕ → Option ℕ
short_dots [] = Some 0
short_dots (b ∷ rest) =
    if b == 46 then (if ends_plainly rest then Some 1 else None)
    else if ends_plainly (b ∷ rest) then Some 0 else None

-- the duration by a number of so many digits and by so many dots
abbrev pub short_length : ℕ → ℕ → ℕ → Length
short_length number digits dots = record {
  value = Some (reduced (dotted (record { top = 1; bottom = number }) dots));
  start = 0;
  end = digits + dots;
}

-- what leaves it open what digits and dots in front of it tell: a divider, or the sign of a rest
abbrev pub is_stop : ℕ → Bool
is_stop b = is_divider b || is_rest_sign b

-- whether digits and dots are those of a rest, whose sign then stands directly behind them and nothing else;
-- none where what stands behind doesn't leave it to them to tell a duration, or has the sign further on
abbrev pub short_rest : List ℕ → Option Bool
short_rest [] = Some false
short_rest (b ∷ rest) =
    if is_rest_sign b && is_empty rest then Some true
    else if nat_lt 57 b && not (list_any is_stop (b ∷ rest)) then Some false else None

-- a token up to where its digits and dots end, or the whole of a rest
abbrev pub text_up_to : List ℕ → ℕ → Bool → List ℕ
text_up_to token end rest = if rest then token else take end token

-- A token is one subtoken, and this is its duration as it is written, with r behind it for a rest.
pub record IsLastingText (token text : List ℕ) : Type 0 where
  pub found : Length
  pub value : Ratio
  pub read : duration token ≡ Ok found
  pub valued : found.value ≡ Some value
  pub alone : subtokens token ≡ token ∷ []
  pub text_is : text ≡
      take (found.end - found.start) (drop found.start token) ++ (if is_rest token then 114 ∷ [] else [])
