-- What is written of a list of records.
use Rattle.std.specs.Prelude.{ℕ, List, [], ◌∷◌, ◌++◌}

-- one record's bytes and LF
abbrev pub line_of : {R : Type 0} → (R → List ℕ) → R → List ℕ
line_of bytes x = bytes x ++ 10 ∷ []

-- The text of records, each with LF behind it.
abbrev pub text : {R : Type 0} → (R → List ℕ) → List R → List ℕ
text bytes [] = []
text bytes (x ∷ xs) = line_of bytes x ++ text bytes xs

-- what the sink writes next, of the records that wait for it
abbrev pub next_text : {R : Type 0} → (R → List ℕ) → List R → List ℕ
next_text bytes [] = []
next_text bytes (x ∷ rest) = line_of bytes x
