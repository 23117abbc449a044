-- The lines of a plan, and which of them are branches.
use Rattle.std.specs.Prelude.{◌≡◌, ◌≢◌, ℕ, ◌+◌, ◌-◌, Bool, true, not, ◌==◌}
use Rattle.std.specs.Prelude.{if◌then◌else◌}
use Rattle.std.specs.Prelude.{List, [], ◌∷◌, ◌++◌, length, take, slice_index}
use Rattle.std.specs.List.{list_all}
use Rattle.hum_words.specs.Characters.{trimmed}

abbrev pub is_lf : ℕ → Bool
is_lf b = b == 10

-- no LF
abbrev pub IsOneLine : List ℕ → Type 0
IsOneLine line = list_all (λ b. not (is_lf b)) line ≡ true

-- a byte in front of the first line of what follows it
abbrev pub onto_line : ℕ → List (List ℕ) → List (List ℕ)
onto_line b [] = (b ∷ []) ∷ []
onto_line b (line ∷ lines) = (b ∷ line) ∷ lines

-- The lines that LF ends, each without its LF, and the last one if it isn't empty.
unfoldable pub lines_of : List ℕ → List (List ℕ)
lines_of [] = []
lines_of (b ∷ bs) = if is_lf b then [] ∷ lines_of bs else onto_line b (lines_of bs)

-- A line at the front of a text has no LF, and behind it come LF and the rest, or nothing, if it
-- isn't empty.
pub data IsFirstLine (line rest text : List ℕ) : Type 0 where
  Ended : IsOneLine line → text ≡ line ++ 10 ∷ rest → IsFirstLine line rest text
  Last : IsOneLine line → line ≢ [] → text ≡ line → rest ≡ [] → IsFirstLine line rest text

-- the lines of a text, one after another
abbrev pub AreLines : List (List ℕ) → List ℕ → Type 0
AreLines [] text = text ≡ []
AreLines (line ∷ lines) text =
    (rest : List ℕ) × IsFirstLine line rest text × AreLines lines rest

-- a line without one CR at its end
abbrev pub without_cr : List ℕ → List ℕ
without_cr line =
    if slice_index line (length line - 1) == 13 then take (length line - 1) line else line

abbrev pub is_empty_or_comment : List ℕ → Bool
is_empty_or_comment [] = true
is_empty_or_comment (b ∷ bs) = b == 35

-- whether a line has blanks alone, or has `#` behind its blanks
abbrev pub is_skipped : List ℕ → Bool
is_skipped line = is_empty_or_comment (trimmed line)

-- the lines that aren't skipped, with their numbers, behind n lines
unfoldable pub branches_from : ℕ → List (List ℕ) → List (ℕ × List ℕ)
branches_from n [] = []
branches_from n (line ∷ lines) =
    if is_skipped (without_cr line) then branches_from (n + 1) lines
    else (n + 1, without_cr line) ∷ branches_from (n + 1) lines

-- the branches of a plan: their lines, with their numbers from 1
abbrev pub branches_of : List ℕ → List (ℕ × List ℕ)
branches_of plan = branches_from 0 (lines_of plan)
