-- The tokens of a record that are still to come.
use Rattle.std.specs.Prelude.{ℕ, ◌+◌, ◌≤◌, List, [], ◌∷◌, length, slice_range}

-- the tokens of a text, by where each ends: the first begins at a place, and any other behind the
-- tab at the end of the one before
abbrev pub tokens_by : List ℕ → ℕ → List ℕ → List (List ℕ)
tokens_by text begin [] = []
tokens_by text begin (end ∷ ends) = slice_range text begin end ∷ tokens_by text (end + 1) ends

-- that they lie in the text
abbrev pub LieIn : List ℕ → ℕ → List ℕ → Type 0
LieIn text begin [] = Unit {0}
LieIn text begin (end ∷ ends) =
    (begin ≤ end) × (end ≤ length text) × LieIn text (end + 1) ends
