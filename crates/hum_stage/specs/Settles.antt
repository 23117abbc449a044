-- What becomes of records that wait.
use Rattle.std.specs.Prelude.{◌≡◌, ℕ, ◌+◌, ◌<◌, ◌≤◌, List, [], ◌∷◌, ◌++◌, map, length}
use Rattle.std.specs.Prelude.{Option, Some, None, Result, Ok, Err}
use Rattle.std.specs.Option.{option_to_list}
use Rattle.hum_score.specs.Row.{Row}
use Rattle.hum_score.specs.Score.{IsOpen, passed}
use Rattle.hum_stage.specs.declared.faults.Rule.{Rule}
use Rattle.hum_stage.specs.declared.looks_ahead.Verdict.{Verdict}
use Rattle.hum_stage.specs.declared.looks_ahead.Verdict.TheVariants.{Waits, Gives}
use Rattle.hum_stage.specs.Outcome.{Outcome, Becomes, Refused, Undecided}
use Rattle.hum_stage.specs.Look.{Look, outcome_at, outcomes_from}
use Rattle.hum_stage.specs.declared.TheConstants.{MOST_RECORDS}

-- What a memory follows: a command, the records before those that wait, the newest first, and
-- those that wait, in their order.
abbrev pub Follows : Type 1
Follows = Look → List Row → List Row → Type 0

-- A memory may be given one record more that goes on with those so far as a score; no more wait
-- than there is room for.
pub record MayWait (room : ℕ) (follows : Follows) (next : Row) : Type 0 where
  pub look : Look
  pub past : List Row
  pub rows : List Row
  pub memory : follows look past rows
  pub score : IsOpen (next ∷ passed past rows)
  pub few : length (passed past rows) < MOST_RECORDS
  pub within : length rows ≤ room

-- and it then waits behind the others
abbrev pub HasWaited : Follows → Follows → Row → Type 0
HasWaited before after next =
    (look : Look) (past rows : List Row) → before look past rows → IsOpen (next ∷ passed past rows)
    → after look past (rows ++ next ∷ [])

-- The first of those that wait is undecided, or it is given and gone, or it is refused.
abbrev pub Settles : Look → List Row → Row → List Row → (List Row → List Row → Type 0)
    → Result Verdict Rule → Type 0
Settles look past row rows follows (Ok Waits) =
    (look past row rows ≡ None) × follows past (row ∷ rows)
Settles look past row rows follows (Ok (Gives given)) =
    (look past row rows ≡ Some (Ok (option_to_list given)))
    × follows (row ∷ past) rows
Settles look past row rows follows (Err rule) = look past row rows ≡ Some (Err rule)

abbrev pub HasSettled : Follows → Follows → Result Verdict Rule → Type 0
HasSettled before after verdict =
    (look : Look) (past : List Row) (row : Row) (rows : List Row) → before look past (row ∷ rows)
    → Settles look past row rows (after look) verdict

-- how many waited before a verdict that left so many
abbrev pub left_by : Result Verdict Rule → ℕ → ℕ
left_by (Ok Waits) n = n
left_by (Ok (Gives o)) n = n + 1
left_by (Err rule) n = n

abbrev pub or_stop : Option (Result (List Row) Rule) → ℕ → ℕ
or_stop None rest = rest + 1
or_stop (Some (Ok rows)) rest = rest + 1
or_stop (Some (Err rule)) rest = 0

-- how many of those that wait stand before the first that is refused
abbrev pub lasting : Look → List Row → List Row → ℕ
lasting look past [] = 0
lasting look past (row ∷ rows) = or_stop (look past row rows) (lasting look (row ∷ past) rows)

abbrev pub Lasts : Follows → ℕ → Type 0
Lasts follows n = (look : Look) (past rows : List Row) → follows look past rows
    → n ≡ lasting look past rows

-- What comes next of those that wait: none, since none is left or the first is undecided; the record
-- that the first becomes; or the rule by which the first is refused, with n that wait.
abbrev pub NextIs : ℕ → Look → List Row → List Row → (List Row → List Row → Type 0) → ℕ
    → Result (Option Row) Rule → Type 0
NextIs room look past [] follows n (Ok None) = follows past []
NextIs room look past [] follows n (Ok (Some due)) = ⊥
NextIs room look past [] follows n (Err rule) = ⊥
NextIs room look past (row ∷ rows) follows n (Ok None) =
    (outcome_at room look past row rows ≡ Undecided) × follows past (row ∷ rows)
NextIs room look past (row ∷ rows) follows n (Ok (Some due)) =
    (outcome_at room look past row rows ≡ Becomes (due ∷ [])) × follows (row ∷ past) rows
NextIs room look past (row ∷ rows) follows n (Err rule) =
    (outcome_at room look past row rows ≡ Refused rule) × (n ≡ length rows + 1)

-- each of these is dropped
abbrev pub all_dropped : List Row → List Outcome
all_dropped rows = map (λ _. Becomes []) rows

-- The first of some records that wait, or none, are dropped, and of those left something holds.
pub record Drops (room : ℕ) (look : Look) (past rows : List Row)
    (then : List Row → List Row → Type 0) : Type 0 where
  pub dropped : List Row
  pub rest : List Row
  pub split : rows ≡ dropped ++ rest
  pub outcomes : outcomes_from room look past rows
      ≡ all_dropped dropped ++ outcomes_from room look (passed past dropped) rest
  pub behind : then (passed past dropped) rest

-- The memory lets those go that are dropped, and then this comes next, where at most one more waits
-- than there is room for.
abbrev pub HasSettledNext : ℕ → Follows → Follows → ℕ → Result (Option Row) Rule → Type 0
HasSettledNext room before after n next =
    (look : Look) (past rows : List Row) → before look past rows → length rows ≤ room + 1
    → Drops room look past rows (λ past rest. NextIs room look past rest (after look) n next)

-- how many records wait or are due, where so many wait
abbrev pub with_due : Option Row → ℕ → ℕ
with_due None n = n
with_due (Some due) n = n + 1

-- the same, by what comes next
abbrev pub with_next : Result (Option Row) Rule → ℕ → ℕ
with_next (Ok due) n = with_due due n
with_next (Err rule) n = n
