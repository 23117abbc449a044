-- What can be done next where each source's next record is one of data, and behind these.
use Rattle.std.proofs.lemmas.Bool.Decides.{nat_tests}
use Rattle.std.proofs.Common.{◌≡◌, ◌∙◌, refl, sym, ap, ℕ, ◌<◌, Bool, true, false}
use Rattle.std.proofs.Common.{List, [], ◌∷◌, length, arith}
use Rattle.std.specs.Prelude.{◌==◌, Option}
use Rattle.std.specs.List.{list_all, list_any, AllByRecursion}
use Rattle.std.proofs.lemmas.Bool.{le-ltb, lt-leb}
use Rattle.hum_score.specs.declared.records.SpinedKind.TheVariants.{Values}
use Rattle.hum_score.specs.declared.records.Kind.TheVariants.{Global}
use Rattle.hum_score.specs.Row.{Row, kind_of}
use Rattle.hum_score.specs.Spines.{Path, after}
use Rattle.hum_stage.specs.declared.faults.End as end
use Rattle.hum_assemble.specs.declared.places.Place.{Place}
use Rattle.hum_assemble.specs.declared.places.Place.TheVariants.{Note}
use Rattle.hum_assemble.specs.declared.places.Next.TheVariants.{Gives, Wants}
use Rattle.hum_assemble.specs.Source.{Source, place, is_inside}
use Rattle.hum_assemble.specs.Round.{any_due, waits, is_lost, earliest, place_at}
use Rattle.hum_assemble.specs.Merge.{ahead, ahead_of, ahead_at, all_moved, moved, spines}
use Rattle.hum_assemble.specs.Taking.{AreNotes}
use Rattle.hum_assemble.proofs.Bytes.{too_long}

-- The data come first.
earliest_note : (x : Source) (xs : List Source) → AllByRecursion (λ s. place_at false s ≡ Note) (x ∷ xs)
    → earliest false (x ∷ xs) ≡ Note
earliest_note x [] h = rw h.0 refl
earliest_note x (y ∷ ys) h = rw (h.0, earliest_note y ys h.1) refl

notes_at : (ss : List Source) (given : ℕ) → given < 4294967295 → AreNotes 4096 1048577 ss
    → Gives Note ≡ ahead_at false Note ss given
notes_at ss given left n =
    let spines = le-ltb 4096 (spines (all_moved true false Note ss)) n.few in
    let bytes = too_long false Note ss false Values refl (sym (le-ltb 1048577 _ n.short)) in
    let few = lt-leb 4294967295 given left in
    rw (spines, ← bytes, few) refl

pub notes_ahead : (ss : List Source) (given : ℕ) (going : Bool) → going ≡ false → (length ss == 0) ≡ false
    → given < 4294967295 → AreNotes 4096 1048577 ss → Gives Note ≡ ahead_at going (earliest going ss) ss given
notes_ahead [] given going none some left n = cc
notes_ahead (x ∷ xs) given going none some left n =
    grind (arith, nat_tests, notes_at (x ∷ xs) given left n, earliest_note x xs n.all)

-- Of no source anything is known.
pub none_due : (ss : List Source) → list_all waits ss ≡ true → any_due ss ≡ false
none_due [] h = refl
none_due (s ∷ ss) h = grind (arith, nat_tests, none_due ss)

none_lost : (ss : List Source) → list_all waits ss ≡ true → list_any (is_lost false) ss ≡ false
none_lost [] h = refl
none_lost (s ∷ ss) h = grind (arith, nat_tests, none_lost ss)

first_waits : (s : Source) (ss : List Source) (given : ℕ) → list_all waits (s ∷ ss) ≡ true
    → list_any (is_lost false) (s ∷ ss) ≡ false → Wants 0 ≡ ahead_of false (s ∷ ss) given
first_waits s ss given h lost = grind (arith, h, lost)

pub waits_ahead : (ss : List Source) (given : ℕ) → (length ss == 0) ≡ false → list_all waits ss ≡ true
    → Wants 0 ≡ ahead (record { sources = ss; given = given })
waits_ahead [] given some h = cc
waits_ahead (s ∷ ss) given some h =
    first_waits s ss given h (none_lost (s ∷ ss) h)
    ∙ ap (λ b. ahead_of b (s ∷ ss) given) (sym (none_due (s ∷ ss) h))

-- Data leaves the spines as they stand.
note_stays : (path : Path) (row : Row) → place path row ≡ Note → (after path row ≡ path) × (is_inside path ≡ false)
note_stays = grind (arith, nat_tests)

-- Data is no global comment.
pub note_spined : (path : Path) (row : Row) → place path row ≡ Note → kind_of row ≡ Global → ⊥
note_spined = grind (arith, nat_tests)

pub note_moved : (going : Bool) (p : Place) (path : Path) (due : Bool) (row : Row) (ended : Option end.End) → place path row ≡ Note
    → record { path = path; due = false; coming = []; ended = ended }
    ≡ moved true going p (record { path = path; due = due; coming = row ∷ []; ended = ended })
note_moved going p path due row ended h = let (stays, outside) = note_stays path row h in rw (stays, outside) refl
