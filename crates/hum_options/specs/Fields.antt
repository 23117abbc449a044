-- Fields of the opening record, as a list has them.
use Rattle.std.specs.Prelude.{ℕ, ◌≤◌, nat_le, List, [], ◌∷◌, ◌++◌, Option, None, Some, if◌then◌else◌}
use Rattle.std.specs.Option.{option_map}
use Rattle.std.specs.Str.{bytes_eq}
use lib.Chars.{codes}
use Rattle.hum_choices.specs.declared.extract.Field.TheVariants.{Number, Last}
use Rattle.hum_choices.specs.declared.extract.FieldRange.{FieldRange}
use Rattle.hum_options.specs.Cutting.{front, remainder}
use Rattle.hum_options.specs.Numbers.{IsPositive, positive_of}
use Rattle.hum_choices.specs.declared.context.TheConstants.{GREATEST_COUNT}

-- the number of a field, or of tokens: from 1 to 4,096
abbrev pub IsCount : List ℕ → ℕ → Type 0
IsCount = IsPositive GREATEST_COUNT

abbrev pub count_of : List ℕ → Option ℕ
count_of = positive_of GREATEST_COUNT

-- the fields from one number through another
abbrev pub through : ℕ → ℕ → FieldRange
through m n = record { first = Number m; last = Number n }

-- the fields from a number through the last
abbrev pub onward : ℕ → FieldRange
onward m = record { first = Number m; last = Last }

-- the last field
abbrev pub last_field : FieldRange
last_field = record { first = Last; last = Last }

-- `a`, `$`, `a-b` with a at most b, or `a-$`
pub data AreFields : List ℕ → FieldRange → Type 0 where
  one : {a : List ℕ} {m : ℕ} → IsCount a m → AreFields a (through m m)
  last : AreFields (codes "$") last_field
  span : {a b : List ℕ} {m n : ℕ} → IsCount a m → IsCount b n → m ≤ n
      → AreFields (a ++ (codes "-" ++ b)) (through m n)
  to_last : {a : List ℕ} {m : ℕ} → IsCount a m → AreFields (a ++ codes "-$") (onward m)

-- from m through n, if that isn't before it
abbrev pub in_order : ℕ → Option ℕ → Option FieldRange
in_order m None = None
in_order m (Some n) = if nat_le m n then Some (through m n) else None

-- from m through what stands behind the dash
abbrev pub from_number : List ℕ → Option ℕ → Option FieldRange
from_number b None = None
from_number b (Some m) =
    if bytes_eq b (codes "$") then Some (onward m) else in_order m (count_of b)

-- by what stands before the first dash, and from it on
abbrev pub by_dash : List ℕ → List ℕ → Option FieldRange
by_dash a [] =
    if bytes_eq a (codes "$") then Some last_field else option_map (λ m. through m m) (count_of a)
by_dash a (dash ∷ b) = from_number b (count_of a)

-- the fields that an item is, if it is some
abbrev pub fields_of : List ℕ → Option FieldRange
fields_of item = by_dash (front 45 item) (remainder 45 item)
