-- Lists of records that come bit by bit, and how one goes on to another.
use Rattle.std.specs.Prelude.{◌≡◌, Bool, true, List, [], ◌∷◌, ◌++◌, Option, Some, None}
use Rattle.hum_stage.specs.declared.faults.End.{End}

-- The records so far, in their order, and the end once it is known.
pub record Flow (R : Type 0) : Type 0 where
  pub items : List R
  pub end : Option End

-- these records, and no end yet
abbrev pub so_far : {R : Type 0} → List R → Flow R
so_far xs = record { items = xs; end = None }

-- A prefix of a list: what follows it there may be nothing.
abbrev pub Begins : {R : Type 0} → List R → List R → Type 0
Begins {R} front all = (rest : List R) × (front ++ rest ≡ all)

abbrev pub IsOver : {R : Type 0} → Flow R → Type 0
IsOver a = (e : End) × (a.end ≡ Some e)

-- The first goes on to the second: its records are a front, and nothing comes behind its end.
pub record Later {R : Type 0} (a b : Flow R) : Type 0 where
  pub items : Begins a.items b.items
  pub over : (e : End) → a.end ≡ Some e → b ≡ a

-- Flows side by side, as the inputs of a stage: each goes on to the one at its place,
abbrev pub AllLater : {R : Type 0} → List (Flow R) → List (Flow R) → Type 0
AllLater [] [] = Unit {0}
AllLater (a ∷ xs) (b ∷ ys) = Later a b × AllLater xs ys
AllLater [] (b ∷ ys) = ⊥
AllLater (a ∷ xs) [] = ⊥

-- each is over,
abbrev pub AllOver : {R : Type 0} → List (Flow R) → Type 0
AllOver [] = Unit {0}
AllOver (a ∷ xs) = IsOver a × AllOver xs

-- each is one that may lie on a link.
abbrev pub AllFine : {R : Type 0} → (Flow R → Bool) → List (Flow R) → Type 0
AllFine fine [] = Unit {0}
AllFine fine (a ∷ xs) = (fine a ≡ true) × AllFine fine xs
