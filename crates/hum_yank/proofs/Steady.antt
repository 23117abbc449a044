-- What yank decides stays.
use Rattle.std.proofs.Common.{◌≡◌, refl, ℕ, ◌+◌, ◌≤◌, Bool, true, false}
use Rattle.std.proofs.Common.{List, [], ◌∷◌, ◌++◌, length, arith, cond, Option, Some, None}
use Rattle.std.proofs.Common.{inl, inr}
use Rattle.std.specs.Prelude.{Result, Ok}
use Rattle.std.specs.List.{list_any, list_all}
use Rattle.std.proofs.lemmas.Bool.{cases_Bool}
use Rattle.std.proofs.lemmas.Bool.Decides.{nat_tests}
use Rattle.hum_score.specs.declared.records.SpinedKind.{SpinedKind}
use Rattle.hum_score.specs.declared.records.SpinedKind.TheVariants.{Local, Interpretation, Values}
use Rattle.hum_score.specs.Row.{Row, Comment, Spined}
use Rattle.hum_score.specs.Spines.{Path, Unopened, Spines, after}
use Rattle.hum_score.specs.Rules.{fault_of, is_closed, is_unfinished}
use Rattle.hum_score.specs.Score.{IsOpen, path_after, passed}
use Rattle.hum_stage.specs.declared.faults.Rule.{Rule}
use Rattle.hum_stage.specs.Order.{passed-push}
use Rattle.hum_stage.specs.Look.{IsSteady}
use Rattle.hum_yank.specs.Passages.{Form, last_of}
use Rattle.hum_choices.specs.declared.yank.YankRange.{YankRange}
use Rattle.hum_yank.specs.Yank.{Choice, chosen_by, chooses_early, chooses_late, chooses_now}
use Rattle.hum_yank.specs.Yank.{drops_now, to_spined, is_chosen, last_at, is_yanked, kept}
use Rattle.hum_yank.specs.Yank.{yank_numbered, yank}
use Rattle.hum_yank.proofs.Telling.{all_decided}

pub last_grows : (form : Form) (row : Row) (seen : List Row) → last_of form seen ≤ last_of form
    (row ∷ seen)
last_grows = grind (arith, nat_tests)

-- a range that chooses for good, and one that drops for good
now_stays : (least more x : ℕ) (range : YankRange) → least ≤ more → chooses_now least x range ≡ true
    → chooses_now more x range ≡ true
now_stays = grind (arith, nat_tests)

now_late : (least x : ℕ) (range : YankRange) → chooses_now least x range ≡ true → chooses_late least
    x range ≡ true
now_late = grind (arith, nat_tests)

drop_stays : (least more x : ℕ) (range : YankRange) → least ≤ more → drops_now least x range ≡ true
    → drops_now more x range ≡ true
drop_stays = grind (arith, nat_tests)

dropped_now : (least x : ℕ) (range : YankRange) → drops_now least x range ≡ true → chooses_now least
    x range ≡ false
dropped_now = grind (arith, nat_tests)

dropped_late : (least x : ℕ) (range : YankRange) → drops_now least x range ≡ true → chooses_late
    least x range ≡ false
dropped_late = grind (arith, nat_tests)

any_stays : {X : Type 0} (p q : X → Bool) (xs : List X) → ((x : X) → p x ≡ true → q x ≡ true)
    → list_any p xs ≡ true → list_any q xs ≡ true
any_stays p q [] h e = cc
any_stays p q (x ∷ xs) h e = grind (arith, nat_tests, any_stays p q xs h)

all_stays : {X : Type 0} (p q : X → Bool) (xs : List X) → ((x : X) → p x ≡ true → q x ≡ true)
    → list_all p xs ≡ true → list_all q xs ≡ true
all_stays p q [] h e = refl
all_stays p q (x ∷ xs) h e = grind (arith, nat_tests, all_stays p q xs h)

all_none : {X : Type 0} (p q : X → Bool) (xs : List X) → ((x : X) → p x ≡ true → q x ≡ false)
    → list_all p xs ≡ true → list_any q xs ≡ false
all_none p q [] h e = refl
all_none p q (x ∷ xs) h e = grind (arith, nat_tests, all_none p q xs h)

-- what is chosen or dropped while a spine is open stays so, with a greater last number and
-- after the close
pub chosen_stays : (ranges : List YankRange) (closed : Bool) (least more x : ℕ) (d : Bool) → least
    ≤ more → is_chosen ranges false least x ≡ Some d → is_chosen ranges closed more x ≡ Some d
chosen_stays ranges closed least more x d h e = elim
    (cases_Bool (list_any (chooses_now least x) ranges)) as
    (λ _. is_chosen ranges closed more x ≡ Some d) [
      | inl w ↦ grind (arith, nat_tests, any_stays, now_stays, now_late)
      | inr w ↦
          grind (arith, nat_tests, cases_Bool, all_stays, drop_stays, all_none, dropped_now, dropped_late)
    ]

-- the opening record has passed
abbrev pub IsOpened : Path → Type 0
IsOpened Unopened = ⊥
IsOpened (Spines names) = Unit {0}

unfinished_opened : (path : Path) → is_unfinished path ≡ true → IsOpened path
unfinished_opened = grind (arith, nat_tests)

stays_opened : (path : Path) (row : Row) → IsOpened path → IsOpened (after path row)
stays_opened = grind (arith, nat_tests)

all_opened : (past rows : List Row) → IsOpened (path_after past) → IsOpened
    (path_after (passed past rows))
all_opened past [] h = h
all_opened past (row ∷ rows) h = all_opened (row ∷ past) rows (stays_opened (path_after past) row h)

-- after the last spine's end only comments follow
closed_then : (path : Path) (kind : SpinedKind) (tokens : List (List ℕ)) → IsOpened path → is_closed
    path ≡ true → fault_of path (Spined kind tokens) ≡ None → ⊥
closed_then = grind (arith, nat_tests)

-- What is decided of a number, by the records so far, stays with one more.
pub seen_stays : (o : Choice) (seen : List Row) (next : Row) (x : ℕ) (d : Bool) → IsOpened
    (path_after seen) → IsOpen (next ∷ seen) → chosen_by o seen x ≡ Some d
    → chosen_by o (next ∷ seen) x ≡ Some d
seen_stays o seen (Comment text) x d opened score e = elim
    (cases_Bool (is_closed (path_after seen))) as
    (λ _. is_chosen o.ranges (is_closed (path_after seen))
    (cond (is_closed (path_after seen)) (last_of o.form (to_spined seen))
    (last_of o.form (Comment text ∷ seen))) x ≡ Some d) [
      | inl w ↦ rw w (rw w at e)
      | inr w ↦ rw w (chosen_stays o.ranges false (last_of o.form seen)
          (last_of o.form (Comment text ∷ seen)) x d (last_grows o.form (Comment text) seen)
          (rw w at e))
    ]
seen_stays o seen (Spined kind tokens) x d opened score e = elim
    (cases_Bool (is_closed (path_after seen))) as
    (λ _. is_chosen o.ranges (is_closed (path_after (Spined kind tokens ∷ seen)))
    (last_at o.form (Spined kind tokens ∷ seen)) x ≡ Some d) [
      | inl w ↦ absurd (closed_then (path_after seen) kind tokens opened w score.1)
      | inr w ↦
          let old = rw w at e in
          let grown = last_grows o.form (Spined kind tokens) seen in
          whole (is_closed (path_after (Spined kind tokens ∷ seen)))
          (chosen_stays o.ranges (is_closed (path_after (Spined kind tokens ∷ seen)))
          (last_of o.form seen) (last_of o.form (Spined kind tokens ∷ seen)) x d grown old)
    ]
  where
    whole : (closed : Bool) → is_chosen o.ranges closed (last_of o.form (Spined kind tokens ∷ seen))
        x ≡ Some d → is_chosen o.ranges closed (cond closed
        (last_of o.form (Spined kind tokens ∷ seen)) (last_of o.form (Spined kind tokens ∷ seen))) x
        ≡ Some d
    whole = grind (arith, nat_tests)

yanked_stays : (o : Choice) (past : List Row) (row : Row) (rows : List Row) (next : Row) (x : ℕ)
    (d : Bool) → IsOpen (next ∷ passed (row ∷ past) rows) → is_yanked o past row rows x ≡ Some d
    → is_yanked o past row (rows ++ next ∷ []) x ≡ Some d
yanked_stays o past row rows next x d score e =
    by_tests (list_any (chooses_early x) o.ranges) (is_unfinished (path_after past)) refl e
    (λ w k. rw (passed-push (row ∷ past) rows next)
    (seen_stays o (passed (row ∷ past) rows) next x d
    (all_opened past (row ∷ rows) (unfinished_opened (path_after past) w)) score k))
  where
    by_tests : (a b : Bool) {old new : Option Bool} → b ≡ is_unfinished (path_after past) → cond a
        (Some true) (cond b old (Some false)) ≡ Some d
        → (is_unfinished (path_after past) ≡ true → old ≡ Some d → new ≡ Some d) → cond a
        (Some true) (cond b new (Some false)) ≡ Some d
    by_tests = grind (arith, nat_tests)

kept_stays : (row : Row) (old new : Option Bool) (d : Result (List Row) Rule)
    → ((b : Bool) → old ≡ Some b → new ≡ Some b) → kept row old ≡ Some d → kept row new ≡ Some d
kept_stays = grind (arith, nat_tests)

numbered_stays : (o : Choice) (past : List Row) (row : Row) (rows : List Row) (next : Row)
    (n : Option ℕ) (d : Result (List Row) Rule) → IsOpen (next ∷ passed (row ∷ past) rows)
    → yank_numbered o past row rows n ≡ Some d → yank_numbered o past row (rows ++ next ∷ []) n
    ≡ Some d
numbered_stays o past row rows next None d score e = e
numbered_stays o past row rows next (Some x) d score e = kept_stays row
    (is_yanked o past row rows x) (is_yanked o past row (rows ++ next ∷ []) x) d
    (λ b k. yanked_stays o past row rows next x b score k) e

one_kept : (row : Row) (b : Option Bool) (new : List Row) → kept row b ≡ Some (Ok new) → length new
    ≤ 1
one_kept = grind (arith, nat_tests)

one_numbered : (o : Choice) (past : List Row) (row : Row) (rows : List Row) (n : Option ℕ)
    (new : List Row) → yank_numbered o past row rows n ≡ Some (Ok new) → length new ≤ 1
one_numbered = grind (arith, nat_tests)

pub yank_steady : (o : Choice) → IsSteady (yank o)
yank_steady o = record {
  stays = stay;
  one = one;
  decides = λ past row rows closed e. all_decided o past row rows (rw closed.1 refl) e;
}
  where
    stay : (past : List Row) (row : Row) (rows : List Row) (next : Row) (d : Result (List Row) Rule)
        → IsOpen (next ∷ passed (row ∷ past) rows) → yank o past row rows ≡ Some d → yank o past row
        (rows ++ next ∷ []) ≡ Some d
    stay past (Comment text) rows next d score e = numbered_stays o past (Comment text) rows next _
        d score e
    stay past (Spined Interpretation tokens) rows next d score e = e
    stay past (Spined Local tokens) rows next d score e = numbered_stays o past
        (Spined Local tokens) rows next _ d score e
    stay past (Spined Values tokens) rows next d score e = numbered_stays o past
        (Spined Values tokens) rows next _ d score e

    one : (past : List Row) (row : Row) (rows new : List Row) → yank o past row rows ≡ Some (Ok new)
        → length new ≤ 1
    one = grind (arith, nat_tests, one_numbered, one_kept)
