-- The words of rid: each is `-` and letters of what is dropped.
use Rattle.std.specs.Prelude.{ℕ, Bool, false, not, ◌&&◌, ◌==◌, List, [], ◌∷◌, length}
use Rattle.std.specs.List.{list_any, list_all}
use lib.Chars.{codes}
use Rattle.hum_choices.specs.declared.rid.RidOptions.{RidOptions}
use Rattle.hum_options.specs.Given.{letter}

-- what a record may be dropped by
abbrev pub letters : List ℕ
letters = codes "GLIDdilgT"

abbrev pub is_among : List ℕ → ℕ → Bool
is_among group b = list_any (λ c. c == b) group

-- at least one letter
abbrev pub are_letters : List ℕ → Bool
are_letters bs = not (length bs == 0) && list_all (is_among letters) bs

-- `-` and at least one letter
abbrev pub is_letter_word : List ℕ → Bool
is_letter_word [] = false
is_letter_word (dash ∷ bs) = dash == 45 && are_letters bs

abbrev pub has_letter : ℕ → List ℕ → Bool
has_letter b word = is_among word b

-- whether one of the words has the letter
abbrev pub drops : ℕ → List (List ℕ) → Bool
drops b = list_any (has_letter b)

-- what the words drop: what any letter of them does
abbrev pub dropped : List (List ℕ) → RidOptions
dropped words = record {
  global_comments = drops (letter (codes "G")) words;
  empty_global_comments = drops (letter (codes "g")) words;
  local_comments = drops (letter (codes "L")) words;
  null_local_comments = drops (letter (codes "l")) words;
  interpretations = drops (letter (codes "I")) words;
  null_interpretations = drops (letter (codes "i")) words;
  tandems = drops (letter (codes "T")) words;
  values = drops (letter (codes "D")) words;
  null_values = drops (letter (codes "d")) words;
}
