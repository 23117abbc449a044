-- A record given of sources of which one has more to come.
use Rattle.std.proofs.lemmas.Bool.Decides.{nat_tests}
use Rattle.std.proofs.Common.{◌≡◌, refl, ap, ℕ, zero, suc, ◌+◌, Bool, true, arith}
use Rattle.std.proofs.Common.{false, ◌&&◌, List, [], ◌∷◌}
use Rattle.std.specs.Prelude.{Option, None, is_none, is_some, ◌==◌, if◌then◌else◌}
use Rattle.std.specs.List.{list_any}
use Rattle.hum_score.specs.Row.{Row}
use Rattle.hum_score.specs.Spines.{Path, width}
use Rattle.hum_stage.specs.declared.faults.End as end
use Rattle.hum_assemble.specs.declared.places.Place.{Place}
use Rattle.hum_assemble.specs.Source.{Source}
use Rattle.hum_assemble.specs.Change.{Change, changed, changed_at, IsOpenAt}
use Rattle.hum_assemble.specs.Merge.{moved, all_moved, nulls, tokens_of_first, text_of_first}
use Rattle.hum_assemble.specs.Merge.{tokens_given, comment_given, spines}
use Rattle.hum_assemble.specs.Places.{rank, is_over, earlier}
use Rattle.hum_assemble.specs.Round.{shown, is_asked, is_missing, is_lost, place_at, takes}
use Rattle.hum_assemble.specs.Round.{still_free, earliest, any_due, AllKnown}
use Rattle.hum_assemble.proofs.Kept.{kept}

pub record Moves (free going : Bool) (p : Place) (change : Change) (s : Source) : Type 0 where
  pub taken : takes free going p (changed change s) ≡ takes free going p s
  pub moved_is : moved (takes free going p s) going p (changed change s) ≡ changed change (moved (takes free going p s) going p s)
  pub tokens : (if takes free going p s then tokens_of_first (changed change s).coming else nulls p
      (changed change s)) ≡ (if takes free going p s then tokens_of_first s.coming else nulls p s)
  pub text : takes free going p s ≡ true
      → text_of_first (changed change s).coming ≡ text_of_first s.coming

-- who takes has a record
taken_none : (free going : Bool) (p : Place) (path : Path) (due : Bool) → is_over p ≡ false
    → is_missing going (record { path = path; due = due; coming = []; ended = None }) ≡ false
    → takes free going p (record { path = path; due = due; coming = []; ended = None }) ≡ true → ⊥
taken_none = grind (arith, nat_tests)

not_taken : (going : Bool) (p : Place) (change : Change) (s : Source) (b : Bool) → b ≡ false
    → place_at going (changed change s) ≡ place_at going s
    → moved b going p (changed change s) ≡ changed change (moved b going p s)
not_taken = grind (arith, nat_tests)

moved_taken : (going : Bool) (p : Place) (change : Change) (path : Path) (due : Bool) (x : Row)
    (xs : List Row) (b : Bool)
    → b ≡ true
    → moved b going p (changed change (record { path = path; due = due; coming = x ∷ xs; ended = None })) ≡
    changed change (moved b going p (record { path = path; due = due; coming = x ∷ xs; ended = None }))
moved_taken = grind (arith, nat_tests)

same_tokens : (p : Place) (change : Change) (path : Path) (due : Bool) (x : Row) (xs : List Row)
    (b : Bool)
    → (if b then tokens_of_first (changed change
    (record { path = path; due = due; coming = x ∷ xs; ended = None })).coming else nulls p
    (changed change (record { path = path; due = due; coming = x ∷ xs; ended = None })))
    ≡ (if b then tokens_of_first (x ∷ xs) else nulls p (record { path = path; due = due; coming = x ∷ xs; ended = None }))
same_tokens = grind (arith, nat_tests)

same_nulls : (p : Place) (change : Change) (s : Source) → nulls p (changed change s) ≡ nulls p s
same_nulls = grind (arith, nat_tests)

same_text : (change : Change) (path : Path) (due : Bool) (x : Row) (xs : List Row)
    → text_of_first (changed change (record { path = path; due = due; coming = x ∷ xs; ended = None })).coming ≡ text_of_first (x ∷ xs)
same_text = grind (arith, nat_tests)

same_takes : (free going : Bool) (p : Place) (change : Change) (s : Source)
    → place_at going (changed change s) ≡ place_at going s
    → takes free going p (changed change s) ≡ takes free going p s
same_takes free going p change s e = ap (λ (q : Place). free && (rank p == rank q)) e

bool_cases : (b : Bool) → (b ≡ true → ⊥) → b ≡ false
bool_cases = grind (arith, nat_tests)

moves_fields : (free going : Bool) (p : Place) (change : Change) (path : Path) (due : Bool)
    (coming : List Row)
    → is_over p ≡ false
    → is_missing going (record { path = path; due = due; coming = coming; ended = None }) ≡ false
    → Moves free going p change (record { path = path; due = due; coming = coming; ended = None })
moves_fields free going p change path due (x ∷ xs) o h =
    let s : Source = record { path = path; due = due; coming = x ∷ xs; ended = None } in
    let k = kept going change s refl h in
    record {
      taken = same_takes free going p change s k.place;
      moved_is = grind (arith, nat_tests, moved_taken, not_taken);
      tokens = same_tokens p change path due x xs (takes free going p s);
      text = λ t. same_text change path due x xs;
    }
moves_fields free going p change path due [] o h =
    let s : Source = record { path = path; due = due; coming = []; ended = None } in
    let k = kept going change s refl h in
    let f : takes free going p s ≡ false = bool_cases _ (taken_none free going p path due o h) in
    record {
      taken = same_takes free going p change s k.place;
      moved_is = not_taken going p change s (takes free going p s) f k.place;
      tokens = rw f (same_nulls p change s);
      text = λ t. absurd (taken_none free going p path due o h t);
    }

pub moves : (free going : Bool) (p : Place) (change : Change) (s : Source) → is_over p ≡ false
    → s.ended ≡ None → is_missing going s ≡ false → Moves free going p change s
moves free going p change s o e h =
    let same : s ≡ record { path = s.path; due = s.due; coming = s.coming; ended = None } =
    ap (λ (x : Option end.End). record { path = s.path; due = s.due; coming = s.coming; ended = x }) e in
    rw same (moves_fields free going p change s.path s.due s.coming o (rw same at h))

-- All sources.
pub record AllMoves (free going : Bool) (p : Place) (j : ℕ) (change : Change) (ss : List Source) : Type 0 where
  pub moved_are : all_moved free going p (changed_at j change ss) ≡ changed_at j change (all_moved free going p ss)
  pub tokens : tokens_given free going p (changed_at j change ss) ≡ tokens_given free going p ss

pub all_moves : (free going : Bool) (p : Place) (j : ℕ) (change : Change) (ss : List Source)
    → is_over p ≡ false → IsOpenAt j ss → AllKnown going ss → AllMoves free going p j change ss
all_moves free going p j change [] o i k = absurd i
all_moves free going p zero change (s ∷ ss) o i k = grind (arith, nat_tests, moves)
all_moves free going p (suc j) change (s ∷ ss) o i k =
    grind (arith, nat_tests, all_moves (still_free free going p s) going p j change ss o i k.1)

pub comment_same : (going : Bool) (p : Place) (j : ℕ) (change : Change) (ss : List Source)
    → is_over p ≡ false → IsOpenAt j ss → AllKnown going ss
    → comment_given going p (changed_at j change ss) ≡ comment_given going p ss
comment_same going p j change [] o i k = absurd i
comment_same going p zero change (s ∷ ss) o i k = grind (arith, nat_tests, moves)
comment_same going p (suc j) change (s ∷ ss) o i k = rw (comment_same going p j change ss o i k.1) refl

pub earliest_same : (going : Bool) (j : ℕ) (change : Change) (ss : List Source) → IsOpenAt j ss
    → AllKnown going ss → earliest going (changed_at j change ss) ≡ earliest going ss
earliest_same going j change [] i k = absurd i
earliest_same going zero change (s ∷ ss) i k = ap (λ (q : Place). earlier q (earliest going ss)) (kept going change s i k.0).place
earliest_same going (suc j) change (s ∷ ss) i k = ap (earlier (place_at going s)) (earliest_same going j change ss i k.1)

pub known_same : (going : Bool) (j : ℕ) (change : Change) (ss : List Source) → IsOpenAt j ss
    → AllKnown going ss → AllKnown going (changed_at j change ss)
known_same going j change [] i k = absurd i
known_same going zero change (s ∷ ss) i k = ((kept going change s i k.0).known, k.1)
known_same going (suc j) change (s ∷ ss) i k = (k.0, known_same going j change ss i k.1)

spines_changed : (change : Change) (s : Source) → width (changed change s).path ≡ width s.path
spines_changed = grind (arith, nat_tests)

pub spines_same : (j : ℕ) (change : Change) (ss : List Source)
    → spines (changed_at j change ss) ≡ spines ss
spines_same j change [] = refl
spines_same zero change (s ∷ ss) = ap (λ (n : ℕ). n + spines ss) (spines_changed change s)
spines_same (suc j) change (s ∷ ss) = ap (λ (n : ℕ). width s.path + n) (spines_same j change ss)

due_changed : (change : Change) (s : Source) → (changed change s).due ≡ s.due
due_changed = grind (arith, nat_tests)

pub due_same : (j : ℕ) (change : Change) (ss : List Source)
    → any_due (changed_at j change ss) ≡ any_due ss
due_same j change [] = refl
due_same zero change (s ∷ ss) = rw due_changed refl
due_same (suc j) change (s ∷ ss) = rw (due_same j change ss) refl

pub lost_same : (going : Bool) (j : ℕ) (change : Change) (ss : List Source) → IsOpenAt j ss
    → list_any (is_lost going) ss ≡ true → list_any (is_lost going) (changed_at j change ss) ≡ true
lost_same going j change [] i h = absurd i
lost_same going zero change (s ∷ ss) i h = grind (arith, nat_tests)
lost_same going (suc j) change (s ∷ ss) i h = grind (arith, nat_tests, lost_same going j change ss i)

and_false : (a b c : Bool) → (a && b) ≡ false → (a && (b && c)) ≡ false
and_false = grind (arith, nat_tests)

pub known_not_lost : (going : Bool) (ss : List Source) → AllKnown going ss
    → list_any (is_lost going) ss ≡ false
known_not_lost going [] k = refl
known_not_lost going (s ∷ ss) k = rw (and_false (is_asked going s) (is_none (shown s)) (is_some s.ended) k.0, known_not_lost going ss k.1) refl
