-- The stages of a line, as its words and bars divide them.
use Rattle.std.specs.Prelude.{ℕ, Bool, true, false, List, [], ◌∷◌, Option, None, Some}
use Rattle.std.specs.Prelude.{if◌then◌else◌}
use Rattle.hum_words.specs.Pieces.{Item}
use Rattle.hum_words.specs.Pieces as item
use Rattle.hum_options.specs.Answers.{Word}
use Rattle.hum_options.specs.Seen.{words_before_bar}

-- what stands behind the next bar
abbrev pub behind_bar : List Item → Option (List Item)
behind_bar [] = None
behind_bar (item.Word n word ∷ items) = behind_bar items
behind_bar (item.Bar n ∷ items) = Some items

-- the words of each stage behind the next bar
abbrev pub groups_behind : List Item → List (List Word)
groups_behind [] = []
groups_behind (item.Word n word ∷ items) = groups_behind items
groups_behind (item.Bar n ∷ items) = words_before_bar items ∷ groups_behind items

-- the words of each stage
abbrev pub groups : List Item → List (List Word)
groups items = words_before_bar items ∷ groups_behind items

-- The number of the last word in front of the leftmost stage without words, if one has none. Word n
-- is the last so far, and the stage at hand may lack words.
abbrev pub empty_stage : ℕ → Bool → List Item → Option ℕ
empty_stage n lacks [] = if lacks then Some n else None
empty_stage n lacks (item.Bar m ∷ items) = if lacks then Some m else empty_stage m true items
empty_stage n lacks (item.Word m word ∷ items) = empty_stage m false items
