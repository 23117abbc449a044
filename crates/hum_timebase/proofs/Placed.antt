-- The notes of a record alone, and the columns that they stand for.
use Rattle.std.proofs.lemmas.Grind.{common_steps}
use Rattle.std.proofs.Common.{◌≡◌, ◌∙◌, ℕ, zero, suc, ◌+◌, List, [], ◌∷◌, ◌++◌, length, take, drop, get_or, refl, sym, ap, arith}
use Rattle.std.proofs.Common.{Bool, true, false, Option, None, Some}
use Rattle.std.specs.Prelude.{◌||◌, ◌==◌, ◌<◌, ◌≤◌, not, is_some, slice_set, Result, OnErr}
use Rattle.std.proofs.lemmas.Bool.Decides.{nat_tests}
use Rattle.std.proofs.lemmas.List.{drop_all}
use Rattle.std.specs.List.{list_any}
use Rattle.hum_frac.specs.Ratio.{Ratio, plus}
use Rattle.hum_timebase.specs.declared.notes.NoteAt.{NoteAt}
use Rattle.hum_timebase.specs.Placed.{placed}
use Rattle.hum_timebase.specs.Kept.{own_end, ends_after}
use Rattle.hum_timebase.specs.Timebase.{clash, clashes, is_too_long}
use Rattle.hum_timebase.proofs.Pairs.{over_none, whole}

next : (column : ℕ) → column + 1 ≡ suc column
next column = omega arith

-- ---- notes

pub some_placed : (columns : List (Option Ratio)) (column : ℕ) → not (length (placed column columns) == 0) ≡ list_any is_some columns
some_placed [] column = refl
some_placed (None ∷ columns) column = some_placed columns (column + 1)
some_placed (Some lasting ∷ columns) column = grind (arith, nat_tests)

-- a note whose end doesn't fit
abbrev pub long_of : Ratio → NoteAt → Bool
long_of time note = is_too_long time (Some note.lasting)

pub long_placed : (time : Ratio) (columns : List (Option Ratio)) (column : ℕ)
    → list_any (long_of time) (placed column columns) ≡ list_any (is_too_long time) columns
long_placed time [] column = refl
long_placed time (None ∷ columns) column = long_placed time columns (column + 1)
long_placed time (Some lasting ∷ columns) column = ap (λ b. is_too_long time (Some lasting) || b) (long_placed time columns (column + 1))

-- ---- ends that are after the time

-- a note in a column whose end is
abbrev pub clash_of : Ratio → List (Option Ratio) → NoteAt → Bool
clash_of time ends note = clash time (Some note.lasting) (get_or ends note.column None)

clash_none : (time : Ratio) (own : Option Ratio) → clash time own None ≡ false
clash_none = grind (arith, nat_tests)

clashes_none : (time : Ratio) (columns : List (Option Ratio)) → clashes time columns [] ≡ false
clashes_none time [] = refl
clashes_none time (own ∷ columns) = refl

clash_next : (time : Ratio) (own : Option Ratio) (columns ends : List (Option Ratio)) (column : ℕ)
    → clashes time (own ∷ columns) (drop column ends) ≡ (clash time own (get_or ends column None) || clashes time columns (drop (suc column) ends))
clash_next time own columns [] zero = rw (clash_none time own, clashes_none time columns) refl
clash_next time own columns [] (suc column) = rw (clash_none time own, clashes_none time columns) refl
clash_next time own columns (end ∷ ends) zero = refl
clash_next time own columns (end ∷ ends) (suc column) = clash_next time own columns ends column

pub clashes_placed : (time : Ratio) (ends columns : List (Option Ratio)) (column : ℕ)
    → list_any (clash_of time ends) (placed column columns) ≡ clashes time columns (drop column ends)
clashes_placed time ends [] column = refl
clashes_placed time ends (None ∷ columns) column =
    clashes_placed time ends columns (column + 1)
    ∙ ap (λ k. clashes time columns (drop k ends)) (next column)
    ∙ sym (clash_next time None columns ends column)
clashes_placed time ends (Some lasting ∷ columns) column =
    ap (λ b. clash time (Some lasting) (get_or ends column None) || b)
    (clashes_placed time ends columns (column + 1) ∙ ap (λ k. clashes time columns (drop k ends)) (next column))
    ∙ sym (clash_next time (Some lasting) columns ends column)

-- ---- the ends after the cells

-- each of some notes gives its column its own
abbrev pub sounded : Ratio → List NoteAt → List (Option Ratio) → List (Option Ratio)
sounded time [] ends = ends
sounded time (note ∷ notes) ends = sounded time notes (slice_set ends note.column (Some (plus time note.lasting)))

-- a column without a note
silent : (time : Ratio) (columns ends : List (Option Ratio)) (column : ℕ)
    → take (suc column) ends ++ ends_after time columns (drop (suc column) ends) ≡ take column ends ++ ends_after time (None ∷ columns) (drop column ends)
silent time columns [] zero = over_none (own_end time) columns
silent time columns [] (suc column) = over_none (own_end time) columns
silent time columns (end ∷ ends) zero = refl
silent time columns (end ∷ ends) (suc column) = ap (λ more. end ∷ more) (silent time columns ends column)

-- a column with one
noted : (time lasting : Ratio) (columns ends : List (Option Ratio)) (column : ℕ)
    → let own = slice_set ends column (Some (plus time lasting)) in
    take (suc column) own ++ ends_after time columns (drop (suc column) own) ≡ take column ends ++ ends_after time (Some lasting ∷ columns) (drop column ends)
noted time lasting columns [] zero = over_none (own_end time) columns
noted time lasting columns [] (suc column) = over_none (own_end time) columns
noted time lasting columns (end ∷ ends) zero = refl
noted time lasting columns (end ∷ ends) (suc column) = ap (λ more. end ∷ more) (noted time lasting columns ends column)

from_next : (time : Ratio) (columns ends : List (Option Ratio)) (column : ℕ)
    → take (column + 1) ends ++ ends_after time columns (drop (column + 1) ends) ≡ take (suc column) ends ++ ends_after time columns (drop (suc column) ends)
from_next time columns ends column = ap (λ k. take k ends ++ ends_after time columns (drop k ends)) (next column)

pub sounded_placed : (time : Ratio) (columns ends : List (Option Ratio)) (column : ℕ)
    → sounded time (placed column columns) ends ≡ take column ends ++ ends_after time columns (drop column ends)
sounded_placed time [] ends column = sym (whole column ends)
sounded_placed time (None ∷ columns) ends column =
    sounded_placed time columns ends (column + 1) ∙ from_next time columns ends column ∙ silent time columns ends column
sounded_placed time (Some lasting ∷ columns) ends column =
    let own = slice_set ends column (Some (plus time lasting)) in
    sounded_placed time columns own (column + 1) ∙ from_next time columns own column ∙ noted time lasting columns ends column

-- ---- one note more

pub sounded_more : (time : Ratio) (notes : List NoteAt) (j : ℕ) (note other : NoteAt) (ends own all : List (Option Ratio)) → j < length notes
    → note ≡ get_or notes j other → own ≡ slice_set ends note.column (Some (plus time note.lasting))
    → sounded time (drop j notes) ends ≡ all → sounded time (drop (j + 1) notes) own ≡ all
sounded_more = grind (arith, common_steps)

pub short_more : (time : Ratio) (notes : List NoteAt) (j : ℕ) (note other : NoteAt) (all : Bool) → j < length notes
    → note ≡ get_or notes j other → is_too_long time (Some note.lasting) ≡ false
    → list_any (long_of time) (drop j notes) ≡ all → list_any (long_of time) (drop (j + 1) notes) ≡ all
short_more = grind (arith, common_steps)

-- a note that answers a test, and the end of the notes
pub some_here : (f : NoteAt → Bool) (notes : List NoteAt) (j : ℕ) (note other : NoteAt) (all : Bool) → j < length notes → note ≡ get_or notes j other
    → f note ≡ true → list_any f (drop j notes) ≡ all → all ≡ true
some_here = grind (arith, common_steps)

pub none_left : (f : NoteAt → Bool) (notes : List NoteAt) (j : ℕ) (all : Bool) → length notes ≤ j → list_any f (drop j notes) ≡ all → all ≡ false
none_left f notes j all past h = sym h ∙ ap (list_any f) (drop_all j notes past)

pub all_sounded : (time : Ratio) (notes : List NoteAt) (j : ℕ) (ends all : List (Option Ratio)) → length notes ≤ j
    → sounded time (drop j notes) ends ≡ all → ends ≡ all
all_sounded time notes j ends all past h = sym (ap (λ left. sounded time left ends) (drop_all j notes past)) ∙ h

pub on_err : {A E Q : Type 0} (r : Result A E) → Q → OnErr r Q
on_err = grind (arith, nat_tests)
