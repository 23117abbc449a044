-- What searches for a pattern.
use Rattle.std.specs.Prelude.{◌≡◌, ◌==◌, ℕ, Bool, true, false, List, [], ◌∷◌, Some, slice_get}
use lib.Chars.{codes}
use Rattle.regex.specs.Patterns.{Re, SameCaptures}
use Rattle.hum_pattern.specs.Meaning.{expression, matched}
use Rattle.hum_pattern.specs.declared.searched.Searched.{Searched}

-- What is searched for finds in all bytes what the expression of the text finds.
abbrev pub SearchesFor : List ℕ → Re → Type 0
SearchesFor text searched = SameCaptures searched (expression text)

-- What is remembered of a token is what the text, as a pattern, finds in it.
pub record Finds (text : List ℕ) (searched : Searched) : Type 0 where
  pub is : (found : Bool) → searched.found ≡ Some found → matched text searched.token.items ≡ found

-- the same of each that is remembered
pub record AllFound (text : List ℕ) (all : List Searched) : Type 0 where
  pub each : (i : ℕ) (searched : Searched) → slice_get all i ≡ Some searched → Finds text searched

-- whether a token's first byte is this one
abbrev pub begins_with : ℕ → List ℕ → Bool
begins_with byte [] = false
begins_with byte (b ∷ bs) = byte == b

-- what is taken for the pattern of barlines has its text
abbrev pub MayBeBarline : Bool → List ℕ → Type 0
MayBeBarline is text = is ≡ true → text ≡ codes "^="
