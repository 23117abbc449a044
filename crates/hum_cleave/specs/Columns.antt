-- Which columns are cleaved, and how they become one.
use Rattle.std.specs.Prelude.{ℕ, Bool, true, false, List, [], ◌∷◌, map}
use Rattle.std.specs.Str.{bytes_eq}
use Rattle.hum_columns.specs.Chosen.{others}

-- for each opening spine, whether it bears this name
abbrev pub opening_flags : List ℕ → List (List ℕ) → List Bool
opening_flags name names = map (bytes_eq name) names

-- The cleaved columns become one, at the place of the leftmost.
abbrev pub together : {X : Type 0} → X → List Bool → List X → List X
together one [] xs = []
together one (flag ∷ flags) [] = []
together one (true ∷ flags) (x ∷ xs) = one ∷ others flags xs
together one (false ∷ flags) (x ∷ xs) = x ∷ together one flags xs
