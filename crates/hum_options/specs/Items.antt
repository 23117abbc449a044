-- Lists: 1 to 64 items between commas.
use Rattle.std.specs.Prelude.{ℕ, ◌≤◌, nat_le, List, [], ◌∷◌, ◌++◌, length, Option, None, Some, if◌then◌else◌}
use Rattle.std.specs.Option.{option_map, option_and_then}
use lib.Chars.{codes}
use Rattle.hum_options.specs.Cutting.{parts}

-- Items, joined by commas, that are these values in turn.
pub data AreItems {A : Type 0} (IsItem : List ℕ → A → Type 0) : List ℕ → List A → Type 0 where
  one : {item : List ℕ} {value : A} → IsItem item value → AreItems IsItem item (value ∷ [])
  more : {item text : List ℕ} {value : A} {values : List A} → IsItem item value
      → AreItems IsItem text values → AreItems IsItem (item ++ (codes "," ++ text)) (value ∷ values)

-- 1 to 64 of them
pub record AreListed {A : Type 0} (IsItem : List ℕ → A → Type 0) (text : List ℕ) (values : List A)
    : Type 0 where
  pub items : AreItems IsItem text values
  pub most : length values ≤ 64

abbrev pub with_first : {A : Type 0} → Option (List A) → A → Option (List A)
with_first values value = option_map (λ more. value ∷ more) values

-- what each text is, if each is some value
abbrev pub all_of : {A : Type 0} → (List ℕ → Option A) → List (List ℕ) → Option (List A)
all_of value_of [] = Some []
all_of value_of (text ∷ texts) =
    option_and_then (with_first (all_of value_of texts)) (value_of text)

-- what the items of a text are, if it has at most 64 and each is some value
abbrev pub items_of : {A : Type 0} → (List ℕ → Option A) → List ℕ → Option (List A)
items_of value_of text =
    if nat_le (length (parts 44 text)) 64 then all_of value_of (parts 44 text) else None
