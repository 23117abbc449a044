-- The parts of a bundle: a plan's lines, and scores, each behind a line that names it.
use Rattle.std.specs.Prelude.{ℕ, ◌-◌, Bool, false, ◌==◌, if◌then◌else◌, is_some}
use Rattle.std.specs.Prelude.{List, [], ◌∷◌, ◌++◌, length, take, drop, slice_index}
use Rattle.std.specs.Prelude.{Option, None, Some}
use Rattle.std.specs.Str.{bytes_eq}
use Rattle.hum_words.specs.declared.bundle.TheConstants.{LARGEST_BUNDLE}
use lib.Chars.{codes}

-- how many bytes a bundle may have
abbrev pub largest : ℕ
largest = LARGEST_BUNDLE

-- a byte in front of the first line of what follows it
abbrev pub onto_line : ℕ → List (List ℕ) → List (List ℕ)
onto_line b [] = (b ∷ []) ∷ []
onto_line b (line ∷ lines) = (b ∷ line) ∷ lines

-- the lines of some bytes, each with its LF, if it has one
unfoldable pub lines : List ℕ → List (List ℕ)
lines [] = []
lines (b ∷ bs) = if b == 10 then (b ∷ []) ∷ lines bs else onto_line b (lines bs)

-- a text without this byte at its end
abbrev pub without_last : ℕ → List ℕ → List ℕ
without_last b text =
    if slice_index text (length text - 1) == b then take (length text - 1) text else text

-- The name in a line that begins with `--- `: what stands behind, without the LF and a CR before it.
abbrev pub name_in : List ℕ → Option (List ℕ)
name_in line =
    if bytes_eq (take 4 line) (codes "--- ") then Some (without_last 13 (without_last 10 (drop 4 line)))
    else None

abbrev pub names : Option (List ℕ) → List ℕ → Bool
names None name = false
names (Some other) name = bytes_eq other name

-- the bytes in front of the first line that names a score
unfoldable pub before_name : List (List ℕ) → List ℕ
before_name [] = []
before_name (line ∷ lines) = if is_some (name_in line) then [] else line ++ before_name lines

-- the plan's part of a bundle
abbrev pub plan_of : List ℕ → List ℕ
plan_of bundle = before_name (lines bundle)

-- The score of a name: the bytes behind the first line that names it, up to the next that names one.
unfoldable pub score_in : List ℕ → List (List ℕ) → Option (List ℕ)
score_in name [] = None
score_in name (line ∷ lines) =
    if names (name_in line) name then Some (before_name lines) else score_in name lines

abbrev pub score_of : List ℕ → List ℕ → Option (List ℕ)
score_of name bundle = score_in name (lines bundle)
