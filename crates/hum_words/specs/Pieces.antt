-- The pieces of a line: its words and its bars, in order.
use Rattle.std.specs.Prelude.{ℕ, ◌+◌, List, [], ◌∷◌, map}
use Rattle.hum_words.specs.declared.cutting.Piece.{Piece}
use Rattle.hum_words.specs.declared.cutting.Piece.TheVariants as piece

-- A word with its number, or a bar with the number of the last word before it. Words are numbered
-- from 1, bars not counted.
pub data Item : Type 0 where
  Word : ℕ → List ℕ → Item
  Bar : ℕ → Item

-- how many words there are up to here
abbrev pub number_of : Item → ℕ
number_of (Word n word) = n
number_of (Bar n) = n

-- what a piece says, wherever its text lies
abbrev pub item_of : Piece → Item
item_of (piece.Word n word) = Word n word.now
item_of (piece.Bar n) = Bar n

abbrev pub items_of : List Piece → List Item
items_of = map item_of

-- words alone, behind n words
abbrev pub words_from : ℕ → List (List ℕ) → List Item
words_from n [] = []
words_from n (word ∷ words) = Word (n + 1) word ∷ words_from (n + 1) words
