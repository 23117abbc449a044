-- The values that digits and dots write, in whole notes.
use Rattle.std.specs.Prelude.{ℕ, ◌+◌, ◌-◌, ◌*◌, ◌<◌, ◌≤◌, nat_lt, nat_le, Bool, ◌&&◌, not}
use Rattle.std.specs.Prelude.{List, [], ◌∷◌, Option, None, Some, if◌then◌else◌}
use Rattle.std.specs.Str.{bytes_eq}
use Rattle.std.proofs.Common.{zero, suc}
use lib.Chars.{codes}
use Rattle.hum_frac.specs.Ratio.{Ratio, whole, sum}
use Rattle.hum_kern.specs.Runs.{starts_with}

abbrev pub number_from : ℕ → List ℕ → ℕ
number_from n [] = n
number_from n (b ∷ digits) = number_from (10 * n + (b - 48)) digits

-- the number that digits write
abbrev pub number : List ℕ → ℕ
number digits = number_from 0 digits

-- a number from 1 to 4,096 without a leading zero
abbrev pub is_part : List ℕ → Bool
is_part digits =
    not (starts_with 48 digits) && (nat_lt 0 (number digits) && nat_le (number digits) 4096)

abbrev pub part_of : List ℕ → Option ℕ
part_of digits = if is_part digits then Some (number digits) else None

-- 0, 00 and 000, in whole notes
abbrev pub breves : List ℕ → Option ℕ
breves digits =
    if bytes_eq digits (codes "0") then Some 2
    else if bytes_eq digits (codes "00") then Some 4
    else if bytes_eq digits (codes "000") then Some 8
    else None

-- one divided by what digits write
abbrev pub one_by : List ℕ → Option Ratio
one_by digits =
    if is_part digits then Some (record { top = 1; bottom = number digits }) else None

-- what digits alone write, if they are lawful
abbrev pub plain_value : List ℕ → Option Ratio
plain_value digits = elim (breves digits) [ Some n ↦ Some (whole n) | None ↦ one_by digits ]

-- what the digits on both sides of a percent sign write: the second divided by the first
abbrev pub quotient_value : List ℕ → List ℕ → Option Ratio
quotient_value digits second =
    if is_part digits && is_part second
    then Some (record { top = number second; bottom = number digits })
    else None

abbrev pub value_of : List ℕ → Option (List ℕ) → Option Ratio
value_of digits None = plain_value digits
value_of digits (Some second) = quotient_value digits second

abbrev pub half : Ratio → Ratio
half value = record { top = value.top; bottom = 2 * value.bottom }

-- what the last of so many dots adds: half of what was added last
abbrev pub added : Ratio → ℕ → Ratio
added value zero = value
added value (suc dots) = half (added value dots)

-- a value with so many dots
abbrev pub dotted : Ratio → ℕ → Ratio
dotted value zero = value
dotted value (suc dots) = sum (dotted value dots) (added value (suc dots))

-- what values without dots are kept as
pub record IsBase (top bottom : ℕ) : Type 0 where
  pub top_some : 0 < top
  pub top_most : top ≤ 4096
  pub bottom_some : 0 < bottom
  pub bottom_most : bottom ≤ 4096
