-- Letting records go, one by one.
use Rattle.std.proofs.lemmas.Grind.{common_steps}
use Rattle.std.proofs.Common.{◌≡◌, ◌∙◌, refl, sym, ℕ, ◌+◌, ◌<◌, ◌≤◌, List, [], ◌∷◌, ◌++◌}
use Rattle.std.proofs.Common.{length, append_assoc, arith, Some, None}
use Rattle.std.proofs.lemmas.List.{map-append}
use Rattle.std.specs.Prelude.{Ok, Err, Bool, false, ◌==◌}
use Rattle.std.proofs.lemmas.Bool.Decides.{nat_tests}
use Rattle.hum_score.specs.Row.{Row}
use Rattle.hum_score.specs.Score.{passed}
use Rattle.hum_stage.specs.Order.{passed-push}
use Rattle.hum_stage.specs.declared.faults.Rule.{Rule}
use Rattle.hum_stage.specs.declared.faults.Rule.TheVariants.{H1}
use Rattle.hum_stage.specs.declared.looks_ahead.Verdict.TheVariants.{Waits, Gives}
use Rattle.hum_stage.specs.Outcome.{Becomes}
use Rattle.hum_stage.specs.Look.{Look, outcome_at, outcomes_from}
use Rattle.hum_stage.specs.Settles.{Follows, Settles, Drops, NextIs, all_dropped}
use Rattle.hum_stage.proofs.Fronts.{within_room}

-- So far the memory has let only records go that are dropped.
abbrev pub HasDropped : ℕ → Follows → Follows → Type 0
HasDropped room before after =
    (look : Look) (past rows : List Row) → before look past rows → length rows ≤ room + 1
    → Drops room look past rows (after look)

pub drops_none : (room : ℕ) (look : Look) (past rows : List Row)
    (follows : List Row → List Row → Type 0) → follows past rows → Drops room look past rows follows
drops_none = grind (arith, nat_tests)

-- how many are left
rest_few : (n : ℕ) (rows dropped rest : List Row) → rows ≡ dropped ++ rest → length rows ≤ n
    → length rest ≤ n
rest_few = grind (arith, common_steps)

-- one more is dropped
pub drops_more : (room : ℕ) (look : Look) (past rows : List Row)
    (follows follows' : List Row → List Row → Type 0) → Drops room look past rows follows
    → length rows ≤ room + 1
    → ((past rest : List Row) → follows past rest → 0 < length rest)
    → ((past : List Row) (row : Row) (rows : List Row) → follows past (row ∷ rows)
    → Settles look past row rows follows' (Ok (Gives None)))
    → Drops room look past rows follows'
drops_more room look past rows follows follows' h few some verdict =
    on h.dropped h.rest h.split h.outcomes h.behind
  where
    on : (dropped rest : List Row) → rows ≡ dropped ++ rest
        → outcomes_from room look past rows
        ≡ all_dropped dropped ++ outcomes_from room look (passed past dropped) rest
        → follows (passed past dropped) rest → Drops room look past rows follows'
    on dropped [] split outcomes behind = grind (arith, nat_tests)
    on dropped (row ∷ rest) split outcomes behind =
        let v = verdict (passed past dropped) row rest behind in
        let l = rest_few (room + 1) rows dropped (row ∷ rest) split few in
        let o : outcome_at room look (passed past dropped) row rest ≡ Becomes [] =
        rw (within_room room look (passed past dropped) row rest (omega (arith, l)), v.0) refl in
        record {
          dropped = dropped ++ row ∷ [];
          rest = rest;
          split = rw (append_assoc dropped (row ∷ []) rest) split;
          outcomes = outcomes ∙ rw (
            o,
            passed-push past dropped row,
            map-append (λ (r : Row). Becomes []) dropped (row ∷ []),
          ) (sym (append_assoc (all_dropped dropped) (Becomes [] ∷ []) (outcomes_from room look
              (row ∷ passed past dropped) rest)));
          behind = rw (passed-push past dropped row) v.1;
        }

-- The same of the loop: where something waits, and as many as are counted.

pub drops_waits : (room : ℕ) (look : Look) (past rows : List Row)
    (follows follows' : List Row → List Row → Type 0) (n : ℕ)
    → Drops room look past rows follows
    → ((past rest : List Row) → follows past rest → n ≡ length rest) → 0 < n → n ≤ room
    → ((past : List Row) (row : Row) (rows : List Row) → follows past (row ∷ rows)
    → Settles look past row rows follows' (Ok Waits))
    → Drops room look past rows (λ past rest. NextIs room look past rest follows' n (Ok None))
drops_waits = grind (arith, common_steps)

pub drops_full : (room : ℕ) (look : Look) (past rows : List Row)
    (follows follows' follows'' : List Row → List Row → Type 0) (n : ℕ)
    → (h : Drops room look past rows follows) → length rows ≤ room + 1
    → ((past rest : List Row) → follows past rest → n ≡ length rest) → room < n
    → ((past : List Row) (row : Row) (rows : List Row) → follows past (row ∷ rows)
    → Settles look past row rows follows' (Ok Waits))
    → Drops room look past rows (λ past rest. NextIs room look past rest follows'' n (Err H1))
drops_full = grind (arith, common_steps)

pub drops_gives : (room : ℕ) (look : Look) (past rows : List Row)
    (follows follows' : List Row → List Row → Type 0) (n : ℕ) (due : Row)
    → (h : Drops room look past rows follows) → length rows ≤ room + 1
    → ((past rest : List Row) → follows past rest → 0 < length rest)
    → ((past : List Row) (row : Row) (rows : List Row) → follows past (row ∷ rows)
    → Settles look past row rows follows' (Ok (Gives (Some due))))
    → Drops room look past rows (λ past rest. NextIs room look past rest follows' n (Ok (Some due)))
drops_gives = grind (arith, common_steps)

pub drops_refuses : (room : ℕ) (look : Look) (past rows : List Row)
    (follows follows' follows'' : List Row → List Row → Type 0) (n : ℕ) (rule : Rule)
    → (h : Drops room look past rows follows) → length rows ≤ room + 1
    → ((past rest : List Row) → follows past rest → n ≡ length rest) → 0 < n
    → ((past : List Row) (row : Row) (rows : List Row) → follows past (row ∷ rows)
    → Settles look past row rows follows' (Err rule))
    → Drops room look past rows (λ past rest. NextIs room look past rest follows'' n (Err rule))
drops_refuses = grind (arith, common_steps)

-- where none waits
pub drops_empty : (room : ℕ) (look : Look) (past rows : List Row)
    (follows : List Row → List Row → Type 0) (n m : ℕ) → Drops room look past rows follows
    → ((past rest : List Row) → follows past rest → m ≡ length rest) → m ≡ 0
    → Drops room look past rows (λ past rest. NextIs room look past rest follows n (Ok None))
drops_empty = grind (arith, nat_tests)

-- what waits is there
pub filled : (size count rest : ℕ) (b : Bool) → size ≡ count → count ≡ rest → b ≡ (size == 0)
    → b ≡ false → 0 < rest
filled = grind (arith, nat_tests)
