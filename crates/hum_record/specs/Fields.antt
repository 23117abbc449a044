-- What a record's fields stand for.
use Rattle.std.specs.Prelude.{◌≡◌, ℕ, zero, suc, ◌+◌, List, [], ◌∷◌, length}
use Rattle.std.specs.Prelude.{slice_index, if◌then◌else◌}
use Rattle.hum_score.specs.Row.{Row, Comment, Spined, tokens_of}
use Rattle.hum_score.specs.Spelling.{IsTextOf, is_comment, kind_of_token, parts}

-- where each of some tokens ends in their text; the first begins at a place, and a tab follows each
abbrev pub ends_from : ℕ → List (List ℕ) → List ℕ
ends_from start [] = []
ends_from start (token ∷ tokens) =
    (start + length token) ∷ ends_from (start + length token + 1) tokens

-- where a token begins, by where those before it end
abbrev pub begins_at : List ℕ → ℕ → ℕ
begins_at ends zero = 0
begins_at ends (suc before) = slice_index ends before + 1

-- The record of a text: a global comment, or tokens of the kind that the first byte shows.
abbrev pub row_in : List ℕ → Row
row_in text =
    if is_comment text then Comment text else Spined (kind_of_token text) (parts text)

-- the fields of a record: its text, and where its tokens end in it
pub record AreFields (text ends : List ℕ) : Type 0 where
  pub lawful : IsTextOf (row_in text) text
  pub cut : ends ≡ ends_from 0 (tokens_of (row_in text))

-- a text, and where its tokens end in it
pub record Written : Type 0 where
  pub text : List ℕ
  pub ends : List ℕ

abbrev pub written : List ℕ → List ℕ → Written
written text ends = record { text = text; ends = ends }
