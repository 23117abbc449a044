-- Commands that look ahead keep scores, step by step.
use Rattle.std.proofs.lemmas.Grind.{common_steps}
use Rattle.std.proofs.Common.{◌≡◌, refl, ℕ, ◌+◌, Bool, false, List, [], ◌∷◌, take, length, cond, arith}
use Rattle.std.specs.Prelude.{nat_le, Option, Some, None, Result, Ok, Err}
use Rattle.std.proofs.lemmas.Bool.Decides.{nat_tests}
use Rattle.hum_score.specs.Row.{Row}
use Rattle.hum_score.specs.Spines.{Path, Unopened}
use Rattle.hum_score.specs.Rules.{is_unfinished}
use Rattle.hum_score.specs.Score.{IsOpen, path_after}
use Rattle.hum_stage.specs.declared.faults.Rule.{Rule}
use Rattle.hum_stage.specs.declared.faults.Rule.TheVariants.{H1}
use Rattle.hum_score.specs.InOrder.{through, Follow}
use Rattle.hum_stage.specs.Outcome.{Refused, Undecided, settled, refusal}
use Rattle.hum_stage.specs.Meaning.{KeepsScore}
use Rattle.hum_stage.specs.Look.{Look, outcome_of, outcomes_from}
use Rattle.hum_stage.proofs.Scores.{Follow-append, through-append}

-- How a command that looks ahead keeps scores: after records, those given lead to spines in some
-- relation to them; and at the end of a closed score nothing is undecided.
pub record LookKeeps (look : Look) (Leads : List Row → Path → Type 0) : Type 0 where
  pub opening : Leads [] Unopened
  pub next : (past : List Row) (row : Row) (behind : List Row) (given : Path) (rows : List Row)
      → IsOpen (row ∷ past) → Leads past given → look past row behind ≡ Some (Ok rows)
      → Follow given rows × Leads (row ∷ past) (through given rows)
  pub closing : (past : List Row) (given : Path) → IsOpen past
      → is_unfinished (path_after past) ≡ false → Leads past given → is_unfinished given ≡ false
  pub decided : (past : List Row) (row : Row) (rows : List Row) → IsOpen (row ∷ past)
      → Follow (path_after (row ∷ past)) rows
      → is_unfinished (through (path_after (row ∷ past)) rows) ≡ false → look past row rows ≡ None → ⊥

score_from : (room : ℕ) (look : Look) (Leads : List Row → Path → Type 0) (past rows : List Row) (given : Path)
    → LookKeeps look Leads → IsOpen past → Leads past given → Follow (path_after past) rows → Follow given (settled (outcomes_from room look past rows))
score_from room look Leads past [] given k sound leads follow = tt
score_from room look Leads past (row ∷ rows) given k sound leads follow =
    one_of (look past row (take room rows)) refl (λ next leads. score_from room look Leads (row ∷ past) rows next k (sound, follow.0) leads follow.1)
  where
    undecided : (b : Bool) → Follow given (settled (cond b (Refused H1) Undecided ∷ outcomes_from room look (row ∷ past) rows))
    undecided = grind (arith, nat_tests)

    one_of : (d : Option (Result (List Row) Rule)) → look past row (take room rows) ≡ d
        → ((next : Path) → Leads (row ∷ past) next → Follow next (settled (outcomes_from room look (row ∷ past) rows)))
        → Follow given (settled (outcome_of room (length rows) d ∷ outcomes_from room look (row ∷ past) rows))
    one_of (Some (Ok out)) e more =
        let n = k.next past row (take room rows) given out (sound, follow.0) leads e in
        Follow-append given out (settled (outcomes_from room look (row ∷ past) rows)) n.0 (more (through given out) n.1)
    one_of (Some (Err rule)) e more = tt
    one_of None e more = undecided (nat_le room (length rows))

closed_from : (room : ℕ) (look : Look) (Leads : List Row → Path → Type 0) (past rows : List Row) (line : ℕ) (given : Path)
    → LookKeeps look Leads → IsOpen past → Leads past given → Follow (path_after past) rows
    → refusal line (outcomes_from room look past rows) ≡ None → is_unfinished
    (through (path_after past) rows) ≡ false → is_unfinished
    (through given (settled (outcomes_from room look past rows))) ≡ false
closed_from room look Leads past [] line given k sound leads follow none end = k.closing past given sound end leads
closed_from room look Leads past (row ∷ rows) line given k sound leads follow none end =
    one_of (look past row (take room rows)) refl (λ next leads none.
    closed_from room look Leads (row ∷ past) rows (line + 1) next k (sound, follow.0) leads follow.1 none
    end) none
  where
    undecided : (b : Bool) → nat_le room (length rows) ≡ b → look past row (take room rows) ≡ None
        → refusal line (cond b (Refused H1) Undecided ∷ outcomes_from room look (row ∷ past) rows) ≡ None
        → is_unfinished (through given (settled (cond b (Refused H1) Undecided ∷ outcomes_from room look (row ∷ past) rows))) ≡ false
    undecided = grind (arith, common_steps)

    one_of : (d : Option (Result (List Row) Rule)) → look past row (take room rows) ≡ d
        → ((next : Path) → Leads (row ∷ past) next → refusal (line + 1)
        (outcomes_from room look (row ∷ past) rows) ≡ None →
        is_unfinished (through next (settled (outcomes_from room look (row ∷ past) rows))) ≡ false)
        → refusal line (outcome_of room (length rows) d ∷ outcomes_from room look (row ∷ past) rows) ≡ None
        → is_unfinished (through given (settled (outcome_of room (length rows) d ∷ outcomes_from room look (row ∷ past) rows))) ≡ false
    one_of (Some (Ok out)) e more none =
        let n = k.next past row (take room rows) given out (sound, follow.0) leads e in
        rw (through-append given out (settled (outcomes_from room look (row ∷ past) rows))) (more (through given out) n.1 none)
    one_of (Some (Err rule)) e more none = cc
    one_of None e more none = undecided (nat_le room (length rows)) refl e none

pub looking_keeps : (room : ℕ) (look : Look) (Leads : List Row → Path → Type 0) → LookKeeps look Leads → KeepsScore (outcomes_from room look [])
looking_keeps room look Leads k =
    grind (arith, nat_tests, score_from room look Leads, closed_from room look Leads)
