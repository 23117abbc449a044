-- A line cut into its pieces, byte by byte.
use Rattle.std.specs.Prelude.{◌≡◌, ℕ, ◌+◌, if◌then◌else◌, List, [], ◌∷◌, ◌++◌}
use Rattle.std.specs.Prelude.{Result, Ok, Err}
use Rattle.std.specs.declared.vec.Vec.{Vec}
use Rattle.std.specs.declared.alloc.Global.{Global}
use Rattle.hum_words.specs.Characters.{is_blank, is_bar, is_quote}
use Rattle.hum_words.specs.Pieces.{Item, Word, Bar, items_of}
use Rattle.hum_words.specs.Writing.{IsWritten, IsWrongAt}
use Rattle.hum_words.specs.declared.cutting.Piece.{Piece}
use Rattle.hum_words.specs.declared.cutting.WordFault.{WordFault}
use Rattle.hum_words.specs.declared.cutting.WordFault.TheVariants.{Quote, Memory}

-- the pieces of a line, or the number of the word that is wrong with its quotes
abbrev pub Cut : Type 0
Cut = Result (List Item) ℕ

-- Where a line stands: between words, in a word, between two quotes, or behind a closing one, with
-- the word's bytes so far.
pub data Spot : Type 0 where
  Between : Spot
  Inside : List ℕ → Spot
  Quoted : List ℕ → Spot
  Closed : List ℕ → Spot

-- these pieces, and then those
abbrev pub followed_by : List Item → Cut → Cut
followed_by items (Ok more) = Ok (items ++ more)
followed_by items (Err k) = Err k

abbrev pub onto : Item → Cut → Cut
onto item (Ok items) = Ok (item ∷ items)
onto item (Err k) = Err k

-- What is left of a line, cut behind n words, the one that it stands in among them.
unfoldable pub cut : Spot → ℕ → List ℕ → Cut
cut Between n [] = Ok []
cut (Inside word) n [] = Ok (Word n word ∷ [])
cut (Quoted word) n [] = Err n
cut (Closed word) n [] = Ok (Word n word ∷ [])
cut Between n (b ∷ bs) =
    if is_blank b then cut Between n bs
    else if is_bar b then onto (Bar n) (cut Between n bs)
    else if is_quote b then cut (Quoted []) (n + 1) bs
    else cut (Inside (b ∷ [])) (n + 1) bs
cut (Inside word) n (b ∷ bs) =
    if is_blank b then onto (Word n word) (cut Between n bs)
    else if is_bar b then onto (Word n word) (onto (Bar n) (cut Between n bs))
    else if is_quote b then Err n
    else cut (Inside (word ++ b ∷ [])) n bs
cut (Quoted word) n (b ∷ bs) =
    if is_quote b then cut (Closed word) n bs
    else cut (Quoted (word ++ b ∷ [])) n bs
cut (Closed word) n (b ∷ bs) =
    if is_blank b then onto (Word n word) (cut Between n bs)
    else if is_bar b then onto (Word n word) (onto (Bar n) (cut Between n bs))
    else Err n

-- a line cut into its pieces
abbrev pub cut_line : List ℕ → Cut
cut_line = cut Between 0

-- What was answered says how a line is written, or which word is wrong, unless memory ran out.
abbrev pub Tells : Result (Vec Piece Global) WordFault → List ℕ → Type 0
Tells (Ok pieces) line = IsWritten (items_of pieces.items) line
Tells (Err (Quote k)) line = IsWrongAt k line
Tells (Err Memory) line = Unit {0}

-- what was answered is this cut, unless memory ran out
abbrev pub Gives : Result (Vec Piece Global) WordFault → Cut → Type 0
Gives (Ok pieces) read = read ≡ Ok (items_of pieces.items)
Gives (Err (Quote k)) read = read ≡ Err k
Gives (Err Memory) read = Unit {0}

-- what was answered are these pieces, unless memory ran out
abbrev pub GivesItems : Result (Vec Piece Global) WordFault → List Item → Type 0
GivesItems (Ok pieces) items = items_of pieces.items ≡ items
GivesItems (Err (Quote k)) items = ⊥
GivesItems (Err Memory) items = Unit {0}
