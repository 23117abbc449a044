-- A text, cut at the first of some byte.
use Rattle.std.specs.Prelude.{ℕ, ◌==◌, List, [], ◌∷◌, if◌then◌else◌}
use Rattle.std.specs.List.{slice_split}

-- what stands before the first such byte
abbrev pub front : ℕ → List ℕ → List ℕ
front byte [] = []
front byte (b ∷ bytes) = if b == byte then [] else b ∷ front byte bytes

-- what stands from the first such byte on
abbrev pub remainder : ℕ → List ℕ → List ℕ
remainder byte [] = []
remainder byte (b ∷ bytes) = if b == byte then b ∷ bytes else remainder byte bytes

-- the parts of a text between such bytes
abbrev pub parts : ℕ → List ℕ → List (List ℕ)
parts byte = slice_split (λ b. b == byte)
