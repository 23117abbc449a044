-- Of scores yank makes scores.
use Rattle.std.proofs.Common.{◌≡◌, refl, ℕ, ◌+◌, ◌<◌, false, List, [], ◌∷◌, take}
use Rattle.std.proofs.Common.{length, arith, ◌⊎◌, Option, None}
use Rattle.std.specs.Prelude.{Result}
use Rattle.std.proofs.lemmas.Bool.Decides.{nat_tests}
use Rattle.std.proofs.lemmas.List.{take_all}
use Rattle.hum_score.specs.Row.{Row}
use Rattle.hum_score.specs.Spines.{Path, after}
use Rattle.hum_score.specs.Rules.{is_unfinished}
use Rattle.hum_score.specs.Score.{path_after}
use Rattle.hum_stage.specs.declared.faults.Rule.{Rule}
use Rattle.hum_score.specs.InOrder.{through, Follow}
use Rattle.hum_stage.specs.Outcome.{Outcome, Becomes, Refused, Undecided, settled, refusal}
use Rattle.hum_stage.specs.Look.{outcome_of, outcome_at, outcomes_from}
use Rattle.hum_stage.specs.Meaning.{KeepsScore}
use Rattle.hum_stage.proofs.Scores.{path_passed}
use Rattle.hum_yank.specs.Yank.{Choice, yank, yank_numbered}
use Rattle.hum_yank.proofs.Telling.{all_decided}

-- a record stays, or it goes and the spines don't depend on it
abbrev IsKept : Row → Outcome → Type 0
IsKept row (Becomes out) = (out ≡ row ∷ []) ⊎ ((out ≡ []) × ((path : Path) → after path row ≡ path))
IsKept row (Refused rule) = Unit {0}
IsKept row Undecided = Unit {0}

numbered_is : (room n : ℕ) (o : Choice) (past : List Row) (row : Row) (rows : List Row)
    (number : Option ℕ) → ((path : Path) → after path row ≡ path)
    → IsKept row (outcome_of room n (yank_numbered o past row rows number))
numbered_is = grind (arith, nat_tests)

is_kept : (room n : ℕ) (o : Choice) (past : List Row) (row : Row) (rows : List Row) → IsKept row
    (outcome_of room n (yank o past row rows))
is_kept = grind (arith, nat_tests, numbered_is)

score_from : (room : ℕ) (o : Choice) (past rows : List Row) → Follow (path_after past) rows → Follow
    (path_after past) (settled (outcomes_from room (yank o) past rows))
score_from room o past [] follow = tt
score_from room o past (row ∷ rows) follow =
    grind (arith, nat_tests, score_from room o (row ∷ past) rows follow.1, is_kept)

undecided_is : (room n : ℕ) (d : Option (Result (List Row) Rule)) → outcome_of room n d ≡ Undecided
    → (d ≡ None) × (n < room)
undecided_is = grind (arith, nat_tests)

-- in a closed score none is undecided
none_undecided : (room : ℕ) (o : Choice) (past : List Row) (row : Row) (rows : List Row)
    → is_unfinished (through (path_after (row ∷ past)) rows) ≡ false
    → outcome_at room (yank o) past row rows ≡ Undecided → ⊥
none_undecided = grind (arith, nat_tests, undecided_is, take_all, path_passed, all_decided)

closed_from : (room : ℕ) (o : Choice) (past rows : List Row) (line : ℕ) → refusal line
    (outcomes_from room (yank o) past rows) ≡ None
    → is_unfinished (through (path_after past) rows) ≡ false → is_unfinished
    (through (path_after past) (settled (outcomes_from room (yank o) past rows))) ≡ false
closed_from room o past [] line none end = end
closed_from room o past (row ∷ rows) line none end =
    by_kept (outcome_at room (yank o) past row rows) refl
    (is_kept room (length rows) o past row (take room rows)) none
    (λ k. closed_from room o (row ∷ past) rows (line + 1) k end)
  where
    by_kept : (x : Outcome) → outcome_at room (yank o) past row rows ≡ x → IsKept row x → refusal
        line (x ∷ outcomes_from room (yank o) (row ∷ past) rows) ≡ None
        → (refusal (line + 1) (outcomes_from room (yank o) (row ∷ past) rows) ≡ None → is_unfinished
        (through (path_after (row ∷ past)) (settled
        (outcomes_from room (yank o) (row ∷ past) rows))) ≡ false)
        → is_unfinished (through (path_after past)
        (settled (x ∷ outcomes_from room (yank o) (row ∷ past) rows))) ≡ false
    by_kept = grind (arith, nat_tests, none_undecided)

pub yank_keeps : (room : ℕ) (o : Choice) → KeepsScore (λ p. outcomes_from room (yank o) [] p)
yank_keeps = grind (arith, nat_tests, score_from, closed_from)
