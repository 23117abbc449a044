-- Passages by their numbers, as a list has them.
use Rattle.std.specs.Prelude.{ℕ, ◌≤◌, nat_le, List, [], ◌∷◌, ◌++◌, Option, None, Some, if◌then◌else◌, ◌==◌}
use lib.Chars.{codes}
use Rattle.hum_choices.specs.declared.yank.YankRange.{YankRange}
use Rattle.hum_choices.specs.declared.yank.YankRange.TheVariants.{Through, Onward, ToEnd, FromEnd}
use Rattle.hum_options.specs.Cutting.{front, remainder}
use Rattle.hum_options.specs.Numbers.{IsNumber, IsPositive, number_of, positive_of}
use Rattle.hum_choices.specs.declared.yank.TheConstants.{GREATEST_PASSAGE}

-- the greatest number of a passage
abbrev pub greatest : ℕ
greatest = GREATEST_PASSAGE

-- the number of a passage
abbrev pub IsPassage : List ℕ → ℕ → Type 0
IsPassage = IsNumber greatest

-- how many passages before the last
abbrev pub IsDistance : List ℕ → ℕ → Type 0
IsDistance = IsPositive greatest

-- `a`, `a-b` with a at most b, `a-$`, `a-$-n`, `$`, `$-m`, `$-m-$`, or `$-m-$-n` with n at most m
pub data ArePassages : List ℕ → YankRange → Type 0 where
  one : {a : List ℕ} {x : ℕ} → IsPassage a x → ArePassages a (Through x x)
  span : {a b : List ℕ} {x y : ℕ} → IsPassage a x → IsPassage b y → x ≤ y
      → ArePassages (a ++ (codes "-" ++ b)) (Through x y)
  onward : {a : List ℕ} {x : ℕ} → IsPassage a x → ArePassages (a ++ codes "-$") (Onward x)
  to_end : {a n : List ℕ} {x y : ℕ} → IsPassage a x → IsDistance n y
      → ArePassages (a ++ (codes "-$-" ++ n)) (ToEnd x y)
  last : ArePassages (codes "$") (FromEnd 0 0)
  before_last : {m : List ℕ} {x : ℕ} → IsDistance m x → ArePassages (codes "$-" ++ m) (FromEnd x x)
  last_few : {m : List ℕ} {x : ℕ} → IsDistance m x
      → ArePassages (codes "$-" ++ (m ++ codes "-$")) (FromEnd x 0)
  few_to_end : {m n : List ℕ} {x y : ℕ} → IsDistance m x → IsDistance n y → y ≤ x
      → ArePassages (codes "$-" ++ (m ++ (codes "-$-" ++ n))) (FromEnd x y)

-- how far before the last number a text is, by what stands behind its `$`
abbrev pub behind_dollar : List ℕ → Option ℕ
behind_dollar [] = Some 0
behind_dollar (b ∷ n) = if b == 45 then positive_of greatest n else None

-- the same of the text: `$` is 0, `$-n` is n
abbrev pub distance_of : List ℕ → Option ℕ
distance_of [] = None
distance_of (b ∷ text) = if b == 36 then behind_dollar text else None

-- from x through y, if that isn't before it
abbrev pub in_order : ℕ → Option ℕ → Option YankRange
in_order x None = None
in_order x (Some y) = if nat_le x y then Some (Through x y) else None

-- from x through a number, or through so many before the last
abbrev pub through : ℕ → List ℕ → Option ℕ → Option YankRange
through x b None = in_order x (number_of greatest b)
through x b (Some distance) = if distance == 0 then Some (Onward x) else Some (ToEnd x distance)

-- the passages from a number on, by what stands from the dash on
abbrev pub from_number : List ℕ → Option ℕ → Option YankRange
from_number behind None = None
from_number [] (Some x) = Some (Through x x)
from_number (dash ∷ b) (Some x) = through x b (distance_of b)

-- from x before the last through y before it, if that isn't before it
abbrev pub near_end : ℕ → Option ℕ → Option YankRange
near_end x None = None
near_end x (Some y) = if nat_le y x then Some (FromEnd x y) else None

-- the passages from so many before the last on, by what stands from the dash on
abbrev pub from_distance : List ℕ → Option ℕ → Option YankRange
from_distance behind None = None
from_distance [] (Some x) = Some (FromEnd x x)
from_distance (dash ∷ b) (Some x) = near_end x (distance_of b)

-- by what stands behind `$-`
abbrev pub by_distance : List ℕ → Option YankRange
by_distance text = from_distance (remainder 45 text) (positive_of greatest (front 45 text))

-- by what stands behind `$`
abbrev pub from_last : List ℕ → Option YankRange
from_last [] = Some (FromEnd 0 0)
from_last (b ∷ text) = if b == 45 then by_distance text else None

-- by what stands before the first dash and from it on
abbrev pub by_number : List ℕ → Option YankRange
by_number item = from_number (remainder 45 item) (number_of greatest (front 45 item))

-- the passages that an item is, if it is some
abbrev pub passages_of : List ℕ → Option YankRange
passages_of [] = None
passages_of (b ∷ text) = if b == 36 then from_last text else by_number (b ∷ text)
