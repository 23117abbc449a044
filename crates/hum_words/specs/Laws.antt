-- What holds of every text and every line.
use Rattle.std.specs.Prelude.{◌≡◌, ℕ, ◌↔◌, List, Ok, Err, All}
use Rattle.hum_words.specs.Branches.{AreLines, lines_of}
use Rattle.hum_words.specs.Pieces.{Item, words_from}
use Rattle.hum_words.specs.Writing.{IsQuotable, IsWritten, IsWrongAt}
use Rattle.hum_words.specs.Cutting.{cut_line}

-- a text is divided into its lines, and into no others
abbrev pub IsDivided : List ℕ → Type 0
IsDivided text = (lines : List (List ℕ)) → AreLines lines text ↔ (lines_of text ≡ lines)

-- a line is written by the pieces that it is cut into, and by no others
abbrev pub IsCutAsWritten : List ℕ → Type 0
IsCutAsWritten line = (items : List Item) → IsWritten items line ↔ (cut_line line ≡ Ok items)

-- a line is refused at the word that is wrong with its quotes, and at no other
abbrev pub IsRefusedAsWrong : List ℕ → Type 0
IsRefusedAsWrong line = (k : ℕ) → IsWrongAt k line ↔ (cut_line line ≡ Err k)

-- words can be written in a line exactly where none of them has a quote
abbrev pub CanBeWritten : List (List ℕ) → Type 0
CanBeWritten words =
    All IsQuotable words ↔ ((line : List ℕ) × IsWritten (words_from 0 words) line)
