-- The opening record and the closing one.
use Rattle.std.proofs.lemmas.Grind.{common_steps}
use Rattle.std.proofs.Common.{◌≡◌, ◌∙◌, refl, ap, ℕ, ◌≤◌, ◌<◌, inl}
use Rattle.std.proofs.lemmas.Bool.{eqb-false}
use Rattle.std.proofs.Common.{Bool, true, false, List, [], ◌∷◌, ◌++◌}
use Rattle.std.proofs.Common.{arith, map}
use Rattle.std.specs.Prelude.{◌==◌, Option, None, Some}
use Rattle.std.specs.List.{list_any, list_all, AllByRecursion}
use Rattle.std.proofs.lemmas.Bool.Decides.{nat_tests}
use Rattle.hum_score.specs.declared.records.SpinedKind.TheVariants.{Interpretation}
use Rattle.hum_score.specs.Row.{Row, Spined, tokens_of}
use Rattle.hum_score.specs.declared.spines.Sign.{Sign}
use Rattle.hum_score.specs.Sign.{sign_of, is_exclusive}
use Rattle.hum_score.specs.Rules.{fault_of, has_bare, is_unfinished}
use Rattle.hum_score.specs.Spines.{Path, Unopened, Spines, exclusives, after}
use Rattle.hum_path.proofs.Obeyed.{obeys}
use Rattle.hum_stage.specs.declared.faults.End as end
use Rattle.hum_stage.specs.declared.faults.End.TheVariants.{Closed}
use Rattle.hum_assemble.specs.declared.places.Place.TheVariants.{Opening}
use Rattle.hum_assemble.specs.declared.places.Place.TheVariants.{Closing}
use Rattle.hum_assemble.specs.Source.{Source, place, is_end}
use Rattle.hum_assemble.specs.Head.{is_opened}
use Rattle.hum_assemble.specs.Places.{rank}
use Rattle.hum_assemble.specs.Round.{place_at, is_missing}
use Rattle.hum_assemble.specs.Merge.{all_moved, tokens_given}
use Rattle.hum_assemble.specs.Merge.{tokens_of_first}
use Rattle.hum_assemble.specs.Taking.{is_at}
use Rattle.hum_assemble.proofs.Fitting.{spined_of}
use Rattle.hum_assemble.proofs.Sides.{IsSound, taker, taken_path}
use Rattle.hum_assemble.proofs.Rounds.{AllSound, AllShow, AllSettled}
use Rattle.hum_assemble.proofs.Rounds.{names_of, opened_taker}
use Rattle.hum_score.specs.Spelling.{is_empty}
use Rattle.hum_path.proofs.Onwards.{names_onward}
use Rattle.hum_assemble.proofs.Quiet.{closing_ends}
use Rattle.hum_path.proofs.Kept.{exclusive_filled}
use Rattle.hum_assemble.proofs.Sounding.{ends_leave_none}
use Rattle.hum_assemble.proofs.Alone.{NoneIn, names_in}

-- two lists side by side
list_all_append : (test : Sign → Bool) (xs ys : List (List ℕ))
    → list_all test (map sign_of xs) ≡ true → list_all test (map sign_of ys) ≡ true
    → list_all test (map sign_of (xs ++ ys)) ≡ true
list_all_append = grind (arith, common_steps)

bare_append : (xs ys : List (List ℕ)) → has_bare xs ≡ false → has_bare ys ≡ false
    → has_bare (xs ++ ys) ≡ false
bare_append = grind (arith, common_steps)

-- Where an opening record is given, each source has one there or ends without any.
idle : (due : Bool) (coming : List Row) (ended : Option end.End)
    → is_missing false (record { path = Unopened; due = due; coming = coming; ended = ended }) ≡ false
    → 3 ≤ rank (place_at false (record { path = Unopened; due = due; coming = coming; ended = ended }))
    → is_at false Opening (record { path = Unopened; due = due; coming = coming; ended = ended }) ≡ false
    → (coming ≡ []) × (ended ≡ Some Closed)
idle = grind (arith, nat_tests)

pub record Opens (ss : List Source) : Type 0 where
  pub exclusive : list_all is_exclusive (map sign_of (tokens_given true false Opening ss)) ≡ true
  pub bare : has_bare (tokens_given true false Opening ss) ≡ false
  pub names : names_of (all_moved true false Opening ss) ≡ tokens_given true false Opening ss
  pub settled : AllSettled (all_moved true false Opening ss)

abbrev pub AllUnopened : List Source → Type 0
AllUnopened = AllByRecursion (λ s. s.path ≡ Unopened)

record Opened (path : Path) (row : Row) : Type 0 where
  exclusive : list_all is_exclusive (map sign_of (tokens_of row)) ≡ true
  bare : has_bare (tokens_of row) ≡ false
  names : exclusives (after path row) ≡ tokens_of row
  is : is_opened (after path row) ≡ true

opened_by : (path : Path) (row : Row) → path ≡ Unopened → Some Interpretation ≡ spined_of row
    → fault_of path row ≡ None → Opened path row
opened_by = grind (arith, nat_tests)

pub all_open : (ss : List Source) → AllUnopened ss → AllSound ss → AllShow false Opening ss
    → Opens ss
all_open [] u i k = record { exclusive = refl; bare = refl; names = refl; settled = tt }
all_open (s ∷ ss) u i k =
    let ih = all_open ss u.1 i.1 k.1 in
    (elim (is_at false Opening s) as (λ b. is_at false Opening s ≡ b → Opens (s ∷ ss)) [
      | true ↦ λ at.
          let t = taker false Opening s refl i.0 at in
          let o = opened_by s.path t.row u.0 t.kind t.sound in
          let f = ap tokens_of_first t.is in
          let m = taken_path false Opening s t in
          record {
            exclusive = rw (at, f) (list_all_append is_exclusive (tokens_of t.row) (tokens_given true false Opening ss) o.exclusive ih.exclusive);
            bare = rw (at, f) (bare_append (tokens_of t.row) (tokens_given true false Opening ss) o.bare ih.bare);
            names = rw (at, f, m, o.names, ih.names) refl;
            settled = rw at (inl (ap is_opened m ∙ o.is), ih.settled);
          }
      | false ↦ grind (arith, nat_tests, idle)
    ]) refl

not_nine : (n : ℕ) → (9 == n) ≡ false → 9 ≤ n → 9 < n
not_nine n h l = let other = eqb-false 9 n h in omega (arith, l, other)

beyond : (path : Path) (row : Row) → 9 < rank (place path row) → exclusives path ≡ []
beyond = grind (arith, nat_tests)

pub finished : (path : Path) → is_unfinished path ≡ false → exclusives path ≡ []
finished = grind (arith, common_steps)

done : (path : Path) (due : Bool) (coming : List Row) (ended : Option end.End)
    → IsSound (record { path = path; due = due; coming = coming; ended = ended })
    → is_missing false (record { path = path; due = due; coming = coming; ended = ended }) ≡ false
    → 9 ≤ rank (place_at false (record { path = path; due = due; coming = coming; ended = ended }))
    → is_at false Closing (record { path = path; due = due; coming = coming; ended = ended }) ≡ false
    → exclusives path ≡ []
done = grind (arith, nat_tests, beyond, not_nine, finished)

record Closed_by (path : Path) (row : Row) : Type 0 where
  ends : list_all is_end (map sign_of (tokens_of row)) ≡ true
  bare : has_bare (tokens_of row) ≡ false
  none : exclusives (after path row) ≡ []

closed_by : (path : Path) (row : Row) → is_opened path ≡ true → Some Interpretation ≡ spined_of row
    → fault_of path row ≡ None → list_all is_end (map sign_of (tokens_of row)) ≡ true
    → Closed_by path row
closed_by (Spines names) (Spined Interpretation tokens) o k h e =
    let b = obeys names tokens h in record {
      ends = e;
      bare = b.bare;
      none = names_onward names tokens b.wide b.pair ∙ ends_leave_none false (map sign_of tokens) _ e;
    }
closed_by path row o k h e = grind (arith, nat_tests)

pub record Closes (ss : List Source) : Type 0 where
  pub ends : list_all is_end (map sign_of (tokens_given true false Closing ss)) ≡ true
  pub bare : has_bare (tokens_given true false Closing ss) ≡ false
  pub none : names_of (all_moved true false Closing ss) ≡ []

pub all_close : (ss : List Source) → AllSound ss → AllSettled ss → AllShow false Closing ss
    → Closes ss
all_close [] i e k = record { ends = refl; bare = refl; none = refl }
all_close (s ∷ ss) i e k =
    let ih = all_close ss i.1 e.1 k.1 in
    (elim (is_at false Closing s) as (λ b. is_at false Closing s ≡ b → Closes (s ∷ ss)) [
      | true ↦ λ at.
          let t = taker false Closing s refl i.0 at in
          let o = closed_by s.path t.row (opened_taker Closing s e.0 t) t.kind t.sound (closing_ends s.path t.row t.at) in
          let f = ap tokens_of_first t.is in
          let m = taken_path false Closing s t in
          record {
            ends = rw (at, f) (list_all_append is_end (tokens_of t.row) (tokens_given true false Closing ss) o.ends ih.ends);
            bare = rw (at, f) (bare_append (tokens_of t.row) (tokens_given true false Closing ss) o.bare ih.bare);
            none = rw (at, m, o.none, ih.none) refl;
          }
      | false ↦ λ at.
          let d = done s.path s.due s.coming s.ended i.0 k.0.known k.0.later at in
          record {
            ends = rw (at, d) ih.ends;
            bare = rw (at, d) ih.bare;
            none = rw (at, d, ih.none) refl;
          }
    ]) refl

pub named_none : (paths : List Path) → list_any is_empty (names_in paths) ≡ false → NoneIn paths
named_none [] h = tt
named_none (path ∷ paths) h = grind (arith, common_steps, named_none paths)

pub exclusive_named : (tokens : List (List ℕ)) → list_all is_exclusive (map sign_of tokens) ≡ true
    → list_any is_empty tokens ≡ false
exclusive_named (t ∷ tokens) h = grind (arith, nat_tests, exclusive_filled t, exclusive_named tokens)
exclusive_named tokens h = grind (arith, nat_tests)
