-- The last byte of a text.
use Rattle.std.proofs.lemmas.Grind.{common_steps}
use Rattle.std.proofs.Common.{◌≡◌, ◌≢◌, ℕ, ◌-◌, ◌<◌}
use Rattle.std.proofs.Common.{List, [], ◌∷◌, ◌++◌, length, take, get_or, Some, None, refl, arith}
use Rattle.std.specs.Prelude.{if◌then◌else◌}
use Rattle.hum_words.specs.Branches.{without_cr}
use Rattle.hum_words.specs.Names.{is_name, name_in}

-- behind a front and a byte, the front and that byte are found
pub front_is : (xs : List ℕ) (b : ℕ) → take (length (xs ++ b ∷ []) - 1) (xs ++ b ∷ []) ≡ xs
front_is = grind (arith, common_steps)

pub last_is : (xs : List ℕ) (b : ℕ) → get_or (xs ++ b ∷ []) (length (xs ++ b ∷ []) - 1) 0 ≡ b
last_is = grind (arith, common_steps)

abbrev EndsIn : List ℕ → ℕ → Type 0
EndsIn xs b = (front : List ℕ) × (xs ≡ front ++ b ∷ [])

-- a text with this last byte is a front and the byte
pub ends_in : (xs : List ℕ) (b : ℕ) → 0 < b → get_or xs (length xs - 1) 0 ≡ b
    → (front : List ℕ) × (xs ≡ front ++ b ∷ [])
ends_in = grind (arith, common_steps)

-- no byte is dropped where no CR is the last
pub no_cr : (line : List ℕ) → ((front : List ℕ) → line ≢ front ++ 13 ∷ []) → line ≡ without_cr line
no_cr = grind (arith, common_steps)

-- the name in a word that a colon ends is the front, if that is a name
pub with_colon : (word front : List ℕ) → word ≡ front ++ 58 ∷ []
    → name_in word ≡ (if is_name front then Some front else None)
with_colon word front e = rw (e, last_is front 58, front_is front 58) refl
