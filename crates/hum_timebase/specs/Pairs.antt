-- Two lists, side by side.
use Rattle.std.specs.Prelude.{List, [], ◌∷◌}

-- what a function makes of the two at each place
abbrev pub paired : {A B C : Type 0} → (A → B → C) → List A → List B → List C
paired f (x ∷ xs) (y ∷ ys) = f x y ∷ paired f xs ys
paired f _ _ = []

-- The second list, each place of it changed by what the first has there.
abbrev pub over : {A B : Type 0} → (A → B → B) → List A → List B → List B
over f [] ys = ys
over f (x ∷ xs) [] = []
over f (x ∷ xs) (y ∷ ys) = f x y ∷ over f xs ys
