-- Which tokens are left of records of one width.
use Rattle.std.specs.Prelude.{ℕ, ◌+◌, Bool, true, false, List, [], ◌∷◌, drop}
use Rattle.std.specs.List.{prefix_len}

-- the places of the marks that are set, of which the first has this place
abbrev pub marked_from : ℕ → List Bool → List ℕ
marked_from j [] = []
marked_from j (true ∷ marks) = j ∷ marked_from (j + 1) marks
marked_from j (false ∷ marks) = marked_from (j + 1) marks

-- how many marks are set in front of the first that isn't
abbrev pub front_of : List Bool → ℕ
front_of = prefix_len (λ b. b)

-- the places of the others that are set
abbrev pub moved_of : List Bool → List ℕ
moved_of marks = marked_from (front_of marks) (drop (front_of marks) marks)
