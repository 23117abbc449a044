-- Commands that decide a record by those before it and some of those behind it.
use Rattle.std.specs.Prelude.{◌≡◌, ℕ, ◌≤◌, nat_le, List, [], ◌∷◌, ◌++◌, take, length}
use Rattle.std.specs.Prelude.{if◌then◌else◌, Option, Some, None, Result, Ok}
use Rattle.hum_score.specs.Row.{Row}
use Rattle.hum_score.specs.Score.{IsOpen, IsClosed, passed}
use Rattle.hum_stage.specs.declared.faults.Rule.{Rule}
use Rattle.hum_stage.specs.declared.faults.Rule.TheVariants.{H1}
use Rattle.hum_words.specs.declared.commands.Command.{Command}
use Rattle.hum_stage.specs.Outcome.{Outcome, Refused, Undecided}
use Rattle.hum_stage.specs.Decided.{outcome}
use Rattle.hum_stage.specs.Meaning.{Meaning}

-- What a command decides of a record by the records before it, the newest first, the record itself
-- and those behind it, in their order: what it becomes, or the rule by which it is refused; None
-- while it is undecided.
abbrev pub Look : Type 0
Look = List Row → Row → List Row → Option (Result (List Row) Rule)

-- What is undecided with so many records behind it as there is room for is refused.
abbrev pub outcome_of : ℕ → ℕ → Option (Result (List Row) Rule) → Outcome
outcome_of room behind (Some d) = outcome d
outcome_of room behind None = if nat_le room behind then Refused H1 else Undecided

-- A record is decided by so many records behind it, whatever follows them.
abbrev pub outcome_at : ℕ → Look → List Row → Row → List Row → Outcome
outcome_at room look past row rows = outcome_of room (length rows) (look past row (take room rows))

-- the same of each record of a list, after some that have passed
abbrev pub outcomes_from : ℕ → Look → List Row → List Row → List Outcome
outcomes_from room look past [] = []
outcomes_from room look past (row ∷ rows) =
    outcome_at room look past row rows ∷ outcomes_from room look (row ∷ past) rows

-- what the stage of such a command means
abbrev pub looking : ℕ → ℕ → Command → Look → Meaning
looking room stage command look = record {
  stage = stage;
  command = command;
  outcomes = λ p. outcomes_from room look [] p;
}

-- What every such command keeps: a record that is decided stays so, and becomes at most one; in a
-- closed score each is decided.
pub record IsSteady (look : Look) : Type 0 where
  pub stays : (past : List Row) (row : Row) (rows : List Row) (next : Row)
      (d : Result (List Row) Rule) → IsOpen (next ∷ passed (row ∷ past) rows)
      → look past row rows ≡ Some d → look past row (rows ++ next ∷ []) ≡ Some d
  pub one : (past : List Row) (row : Row) (rows new : List Row)
      → look past row rows ≡ Some (Ok new) → length new ≤ 1
  pub decides : (past : List Row) (row : Row) (rows : List Row)
      → IsClosed (passed (row ∷ past) rows) → look past row rows ≡ None → ⊥
