-- Reading the notes of a record's tokens, one token after another.
use Rattle.std.proofs.lemmas.Bool.Decides.{nat_tests}
use Rattle.std.proofs.lemmas.Grind.{common_steps}
use Rattle.std.proofs.Common.{◌≡◌, arith, ℕ, ◌+◌, ◌-◌, ◌≤◌, Bool, true, false, Option, None}
use Rattle.std.proofs.Common.{List, [], ◌∷◌, ◌++◌, length, take, drop, get_or}
use Rattle.hum_record.specs.Contents.{is_null, is_barline}
use Rattle.hum_frac.specs.Ratio.{Ratio}
use Rattle.hum_timebase.specs.Notes.{note_of, notes_of, is_misread, has_misread}
use Rattle.hum_timebase.specs.Placed.{placed}
use Rattle.hum_timebase.specs.declared.notes.NoteAt.{NoteAt}

-- These notes were read so far, and these columns and tokens are left.
abbrev pub Noted : List Bool → List (List ℕ) → List NoteAt → ℕ → List Bool → List (List ℕ) → Type 0
Noted timed tokens made column columns rest = record {
  counted : column + length columns ≡ length timed;
  notes : made ++ placed column (notes_of columns rest) ≡ placed 0 (notes_of timed tokens);
  read : has_misread columns rest ≡ has_misread timed tokens;
}

-- a token that was read
pub noted_more : (timed : List Bool) (tokens : List (List ℕ)) (made : List NoteAt) (column : ℕ) (columns : List Bool) (d : Bool)
    (token : List ℕ) (found : Option Ratio) {new : List NoteAt} {rest next : List (List ℕ)} → 1 ≤ length columns → rest ≡ token ∷ next
    → found ≡ note_of (get_or columns 0 d) token → is_misread (get_or columns 0 d) token ≡ false
    → new ≡ made ++ placed column (found ∷ []) → Noted timed tokens made column columns rest
    → Noted timed tokens new (column + 1) (take (length columns - 1) (drop 1 columns)) next
noted_more = grind (arith, common_steps)

-- a null token has no note, and nothing of it is refused
pub null_noted : (timed : Bool) (token : List ℕ) → true ≡ is_null token → (None ≡ note_of timed token) × (is_misread timed token ≡ false)
null_noted = grind (arith, nat_tests)

pub barline_noted : (timed : Bool) (token : List ℕ) → true ≡ is_barline token → (None ≡ note_of timed token) × (is_misread timed token ≡ false)
barline_noted = grind (arith, nat_tests)

-- a token is refused
pub refused_here : (timed : List Bool) (tokens : List (List ℕ)) (made : List NoteAt) (column : ℕ) (columns : List Bool) (d : Bool)
    (token : List ℕ) {rest next : List (List ℕ)} → 1 ≤ length columns → rest ≡ token ∷ next → is_misread (get_or columns 0 d) token ≡ true
    → Noted timed tokens made column columns rest → has_misread timed tokens ≡ true
refused_here = grind (arith, common_steps)
