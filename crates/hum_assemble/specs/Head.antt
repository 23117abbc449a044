-- A source's next record, as it is kept.
use Rattle.std.specs.Prelude.{◌≡◌, Bool, true, false, List, [], ◌∷◌, Option, None, Some}
use Rattle.hum_score.specs.Row.{Row, text_of}
use Rattle.hum_score.specs.Spelling.{IsTextOf}
use Rattle.hum_score.specs.Spines.{Path, Unopened, Spines, width, after}
use Rattle.hum_score.specs.Rules.{fault_of}
use Rattle.hum_assemble.specs.declared.source_head.Head.{Head}
use Rattle.std.specs.List.{AllByRecursion}
use Rattle.hum_assemble.specs.Source.{Source, place, is_inside}

abbrev pub coming : Option Head → List Row
coming None = []
coming (Some head) = head.row ∷ []

-- the first, if there is one
abbrev pub first_of : List Row → Option Row
first_of [] = None
first_of (row ∷ rows) = Some row

abbrev pub is_opened : Path → Bool
is_opened Unopened = false
is_opened (Spines names) = true

-- What is kept with it is right, after records that lead to these spines.
pub record IsHead (path : Path) (head : Head) : Type 0 where
  pub place : head.place ≡ place path head.row
  pub width : head.width ≡ width (after path head.row)
  pub sound : fault_of path head.row ≡ None

abbrev pub FitsHead : Path → Option Head → Type 0
FitsHead path None = Unit {0}
FitsHead path (Some head) = IsHead path head

-- what is kept with a source's spines is right
pub record IsKept (path : Path) (opened inside : Bool) (head : Option Head) : Type 0 where
  pub opens : opened ≡ is_opened path
  pub within : inside ≡ is_inside path
  pub fits : FitsHead path head

-- A record that may come after records that lead to these spines: it breaks no path rule, and its
-- text is lawful.
pub record IsLawful (path : Path) (row : Row) : Type 0 where
  pub sound : fault_of path row ≡ None
  pub lawful : IsTextOf row (text_of row)

abbrev pub AreLawful : Path → List Row → Type 0
AreLawful path [] = Unit {0}
AreLawful path (row ∷ rows) = IsLawful path row × AreLawful (after path row) rows

abbrev pub AllLawful : List Source → Type 0
AllLawful = AllByRecursion (λ s. AreLawful s.path s.coming)
