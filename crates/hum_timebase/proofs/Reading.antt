-- What is read of a record, token by token.
use Rattle.std.proofs.lemmas.Bool.Decides.{nat_tests}
use Rattle.std.proofs.lemmas.Grind.{common_steps}
use Rattle.std.proofs.Common.{◌≡◌, ◌∙◌, ℕ, zero, suc, ◌+◌, ◌<◌, ◌≤◌, List, [], ◌∷◌, ◌++◌, map, length, drop, get_or}
use Rattle.std.proofs.Common.{refl, sym, ap, arith, add-one, append_assoc, Bool, true, false, Option, None}
use Rattle.std.specs.Prelude.{◌||◌, is_some}
use Rattle.std.specs.List.{list_any, list_all}
use Rattle.std.proofs.lemmas.Bool.{or_parts}
use Rattle.hum_record.specs.Contents.{is_null, is_barline}
use Rattle.hum_kern.specs.declared.KernFault.{KernFault}
use Rattle.hum_timebase.specs.Notes.{is_timed, own_name, own_names, is_sounding, note_of, notes_of, is_misread, has_misread}
use Rattle.hum_timebase.specs.Placed.{OfColumns}
use Rattle.hum_timebase.specs.Reading.{content_of, Read}
use Rattle.hum_timebase.specs.declared.notes.NoteAt.{NoteAt}
use Rattle.hum_timebase.specs.declared.notes.Content.TheVariants.{Nulls, Barlines, Sounds}

own-none : (tokens : List (List ℕ)) (j : ℕ) → j < length tokens
    → own_names [] (drop j tokens) ≡ own_name [] (get_or tokens j []) ∷ own_names [] (drop (suc j) tokens)
own-none [] j h = absurd (omega arith)
own-none (token ∷ tokens) zero h = refl
own-none (token ∷ tokens) (suc j) h = own-none tokens j (omega arith)

own-drop : (names tokens : List (List ℕ)) (j : ℕ) → j < length tokens
    → own_names (drop j names) (drop j tokens)
    ≡ own_name (get_or names j []) (get_or tokens j []) ∷ own_names (drop (suc j) names) (drop (suc j) tokens)
own-drop names [] j h = absurd (omega arith)
own-drop [] (token ∷ tokens) zero h = refl
own-drop [] (token ∷ tokens) (suc j) h = own-none tokens j (omega arith)
own-drop (name ∷ names) (token ∷ tokens) zero h = refl
own-drop (name ∷ names) (token ∷ tokens) (suc j) h = own-drop names tokens j (omega arith)

pub timed_more : (names tokens : List (List ℕ)) (done all : List Bool) (j : ℕ) (b : Bool) (name token : List ℕ) → j < length tokens
    → b ≡ is_timed name → name ≡ own_name (get_or names j []) token → token ≡ get_or tokens j []
    → done ++ map is_timed (own_names (drop j names) (drop j tokens)) ≡ all
    → (done ++ b ∷ []) ++ map is_timed (own_names (drop (j + 1) names) (drop (j + 1) tokens)) ≡ all
timed_more names tokens done all j b name token below is own at h =
    let next = own-drop names tokens j below in
    rw (is, own, at, append_assoc, add-one) (ap (λ xs. done ++ map is_timed xs) (sym next) ∙ h)

pub names_done : (names tokens : List (List ℕ)) (done all : List Bool) (j : ℕ) → length tokens ≤ j
    → done ++ map is_timed (own_names (drop j names) (drop j tokens)) ≡ all → done ≡ all
names_done = grind (arith, common_steps)

-- ---- what a data record holds

none_sounding : (token : List ℕ) → is_sounding token ≡ false → is_barline token ≡ false → is_null token ≡ true
none_sounding = grind (arith, nat_tests)

pub nulls_alone : (tokens : List (List ℕ)) → list_any is_sounding tokens ≡ false → list_any is_barline tokens ≡ false
    → list_all is_null tokens ≡ true
nulls_alone [] s b = refl
nulls_alone (token ∷ tokens) s b =
    let p = or_parts (is_sounding token) (list_any is_sounding tokens) s in
    let q = or_parts (is_barline token) (list_any is_barline tokens) b in
    rw (none_sounding token p.0 q.0) (nulls_alone tokens p.1 q.1)

pub sounds_some : (tokens : List (List ℕ)) → list_any is_sounding tokens ≡ true → list_all is_null tokens ≡ false
sounds_some [] s = cc
sounds_some (token ∷ tokens) s = go (is_sounding token) refl s (λ more. sounds_some tokens more)
  where
    go : (b : Bool) → is_sounding token ≡ b → (b || list_any is_sounding tokens) ≡ true
        → (list_any is_sounding tokens ≡ true → list_all is_null tokens ≡ false) → list_all is_null (token ∷ tokens) ≡ false
    go = grind (arith, nat_tests)

silent_note : (timed : Bool) (token : List ℕ) → is_sounding token ≡ false → note_of timed token ≡ None
silent_note = grind (arith, nat_tests)

-- without a token that sounds there are no notes
pub no_notes : (timed : List Bool) (tokens : List (List ℕ)) → list_any is_sounding tokens ≡ false → list_any is_some (notes_of timed tokens) ≡ false
no_notes [] tokens s = refl
no_notes (timed ∷ more) [] s = refl
no_notes (timed ∷ more) (token ∷ tokens) s =
    let p = or_parts (is_sounding token) (list_any is_sounding tokens) s in
    rw (silent_note timed token p.0) (no_notes more tokens p.1)

pub content_sounds : (tokens : List (List ℕ)) → content_of tokens ≡ Sounds → list_any is_sounding tokens ≡ true
content_sounds = grind (arith, nat_tests)

pub content_barlines : (tokens : List (List ℕ)) → content_of tokens ≡ Barlines → (list_any is_sounding tokens ≡ false) × (list_any is_barline tokens ≡ true)
content_barlines = grind (arith, nat_tests)

pub content_nulls : (tokens : List (List ℕ)) → content_of tokens ≡ Nulls → (list_any is_sounding tokens ≡ false) × (list_any is_barline tokens ≡ false)
content_nulls = grind (arith, nat_tests)

-- without a token that sounds nothing is refused
no_misread : (timed : List Bool) (tokens : List (List ℕ)) → list_any is_sounding tokens ≡ false → has_misread timed tokens ≡ false
no_misread [] tokens s = refl
no_misread (timed ∷ more) [] s = refl
no_misread (timed ∷ more) (token ∷ tokens) s =
    let p = or_parts (is_sounding token) (list_any is_sounding tokens) s in
    rw (silent_read timed token p.0) (no_misread more tokens p.1)
  where
    silent_read : (timed : Bool) (token : List ℕ) → is_sounding token ≡ false → is_misread timed token ≡ false
    silent_read = grind (arith, nat_tests)

sounds_by : (tokens : List (List ℕ)) → (list_any is_sounding tokens ≡ false → ⊥) → content_of tokens ≡ Sounds
sounds_by = grind (arith, nat_tests)

-- no tokens have no notes
pub none_noted : (timed : List Bool) → notes_of timed [] ≡ []
none_noted [] = refl
none_noted (timed ∷ more) = refl

pub none_misread : (timed : List Bool) → has_misread timed [] ≡ false
none_misread [] = refl
none_misread (timed ∷ more) = refl

-- what was read tells that a token sounds
pub sounds_misread : (timed : List Bool) (tokens : List (List ℕ)) (notes : List NoteAt) (misread : Option KernFault) →
    Read timed tokens notes misread → is_some misread ≡ true → content_of tokens ≡ Sounds
sounds_misread = grind (arith, nat_tests, sounds_by, no_misread)

pub sounds_noted : (timed : List Bool) (tokens : List (List ℕ)) (notes : List NoteAt) (misread : Option KernFault) (has : Bool) →
    Read timed tokens notes misread → is_some misread ≡ false → OfColumns notes (λ columns. has ≡ list_any is_some columns) → has ≡ true
    → content_of tokens ≡ Sounds
sounds_noted = grind (arith, nat_tests, sounds_by, no_notes)
