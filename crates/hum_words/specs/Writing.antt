-- How the pieces of a line are written.
use Rattle.std.specs.Prelude.{◌≡◌, ◌≢◌, ℕ, ◌+◌, true, false, List, [], ◌∷◌, ◌++◌}
use Rattle.std.specs.List.{list_all}
use Rattle.hum_words.specs.Characters.{is_bare, is_quotable, begins_apart, trimmed}
use Rattle.hum_words.specs.Pieces.{Item, Word, Bar, number_of}

-- no blank, bar or quote
abbrev pub IsBare : List ℕ → Type 0
IsBare word = list_all is_bare word ≡ true

-- no quote
abbrev pub IsQuotable : List ℕ → Type 0
IsQuotable word = list_all is_quotable word ≡ true

-- A word is written as it is, if it has at least one byte and no blank, bar or quote, or between
-- two quotes, if it has no quote.
pub data IsSpelled (word text : List ℕ) : Type 0 where
  Plain : word ≢ [] → IsBare word → text ≡ word → IsSpelled word text
  Delimited : IsQuotable word → text ≡ 39 ∷ (word ++ 39 ∷ []) → IsSpelled word text

-- A line begins with a word, and a blank, a bar or the end comes behind it: the rest.
pub data BeginsWithWord (word rest line : List ℕ) : Type 0 where
  Begins : (text : List ℕ) → IsSpelled word text → begins_apart rest ≡ true → line ≡ text ++ rest
      → BeginsWithWord word rest line

-- a line begins with a piece, behind n words, and goes on with the rest
abbrev pub BeginsWith : ℕ → Item → List ℕ → List ℕ → Type 0
BeginsWith n (Bar k) rest line = (k ≡ n) × (line ≡ 124 ∷ rest)
BeginsWith n (Word k word) rest line = (k ≡ n + 1) × BeginsWithWord word rest line

-- A line, behind n words, has these pieces, with blanks before them or not, and goes on with the
-- rest, behind m words.
abbrev pub GoesOn : ℕ → List Item → ℕ → List ℕ → List ℕ → Type 0
GoesOn n [] m rest line = (m ≡ n) × (rest ≡ line)
GoesOn n (item ∷ items) m rest line = (behind : List ℕ)
    × BeginsWith n item behind (trimmed line) × GoesOn (number_of item) items m rest behind

-- A line is written by these pieces: it has them, and behind them blanks alone.
abbrev pub IsWritten : List Item → List ℕ → Type 0
IsWritten items line = (m : ℕ) × (rest : List ℕ) × GoesOn 0 items m rest line × (trimmed rest ≡ [])

-- A line begins with a quote that isn't closed, with a word and a quote in it, or with a word in
-- quotes and neither a blank, a bar nor the end behind it.
pub data IsWrong (line : List ℕ) : Type 0 where
  Unclosed : (text : List ℕ) → IsQuotable text → line ≡ 39 ∷ text → IsWrong line
  Within : (word rest : List ℕ) → word ≢ [] → IsBare word → line ≡ word ++ 39 ∷ rest → IsWrong line
  Joined : (word rest : List ℕ) → IsQuotable word → begins_apart rest ≡ false
      → line ≡ 39 ∷ (word ++ 39 ∷ rest) → IsWrong line

-- word k of a line, behind some pieces, is wrong with its quotes
abbrev pub IsWrongAt : ℕ → List ℕ → Type 0
IsWrongAt k line = (items : List Item) × (m : ℕ) × (rest : List ℕ)
    × GoesOn 0 items m rest line × (k ≡ m + 1) × IsWrong (trimmed rest)
