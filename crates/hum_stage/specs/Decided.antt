-- Commands that decide each record at once.
use Rattle.std.specs.Prelude.{◌≡◌, ℕ, ◌-◌, ◌<◌, nat_le, false}
use Rattle.std.specs.Prelude.{List, [], ◌∷◌, length, if◌then◌else◌}
use Rattle.std.specs.Prelude.{Option, Some, None, Result, Ok, Err}
use Rattle.hum_score.specs.Row.{Row}
use Rattle.hum_score.specs.Spines.{Path, Unopened}
use Rattle.hum_score.specs.Rules.{is_unfinished}
use Rattle.hum_score.specs.Score.{IsOpen, path_after}
use Rattle.hum_score.specs.InOrder.{through, Follow}
use Rattle.hum_words.specs.declared.commands.Command.{Command}
use Rattle.hum_stage.specs.declared.faults.Rule.{Rule}
use Rattle.hum_stage.specs.declared.faults.Rule.TheVariants.{L2}
use Rattle.hum_stage.specs.Limits.{in_room}
use Rattle.hum_stage.specs.Outcome.{Outcome, Becomes, Refused, Undecided}
use Rattle.hum_stage.specs.Meaning.{Meaning}
use Rattle.hum_stage.specs.declared.TheConstants.{MOST_RECORDS}

-- What becomes of a record behind those before it, the newest first: the records that it becomes, or
-- the rule by which it is refused.
abbrev pub Decision : Type 0
Decision = List Row → Row → Result (List Row) Rule

-- what that says of the record
abbrev pub outcome : Result (List Row) Rule → Outcome
outcome (Ok rows) = Becomes rows
outcome (Err rule) = Refused rule

-- What a command makes of each record, by what it decides of one after those before it, the newest
-- first.
abbrev pub decisions : Decision → List Row → List Row → List Outcome
decisions decide past [] = []
decisions decide past (row ∷ rows) = outcome (decide past row) ∷ decisions decide (row ∷ past) rows

-- No stage gives more records than there is room for, as `in_room` says of one decision.
abbrev pub limit : ℕ → List Outcome → List Outcome
limit room [] = []
limit room (Becomes rows ∷ os) =
    if nat_le (length rows) room then Becomes rows ∷ limit (room - length rows) os
    else Refused L2 ∷ os
limit room (Refused rule ∷ os) = Refused rule ∷ os
limit room (Undecided ∷ os) = Undecided ∷ os

-- what the stage of such a command means
abbrev pub at_once : ℕ → Command → Decision → Meaning
at_once stage command decide = record {
  stage = stage;
  command = command;
  outcomes = λ p. limit MOST_RECORDS (decisions decide [] p);
}

-- a memory that stands for records may be given one that goes on with them as a score
pub record MayStep (follows : Decision → List Row → Type 0)
    (row : Row) : Type 0 where
  pub decide : Decision
  pub past : List Row
  pub memory : follows decide past
  pub score : IsOpen (row ∷ past)
  pub few : length past < MOST_RECORDS

-- What one step answered and put out: the records that the record becomes, and the memory goes on;
-- or the rule by which it is refused.
abbrev pub Steps : Decision → List Row → Row
    → (Decision → List Row → Type 0) → ℕ → List Row
    → Option Rule → Type 0
Steps decide past row follows room rows None =
    (decide past row ≡ Ok rows) × follows decide (row ∷ past)
Steps decide past row follows room rows (Some rule) = in_room room (decide past row) ≡ Err rule

-- The same for each way of deciding and each past that the memory stood for.
abbrev pub HasStepped : (Decision → List Row → Type 0)
    → (Decision → List Row → Type 0) → Row → ℕ → List Row
    → Option Rule → Type 0
HasStepped before after next room out refused =
    (decide : Decision) (past : List Row)
    → before decide past → IsOpen (next ∷ past) → Steps decide past next after room out refused

-- a memory that stands for records stands for them and one more, which becomes itself
abbrev pub Leaves : (Decision → List Row → Type 0) → Row → Type 0
Leaves follows next =
    (decide : Decision) (past : List Row) → follows decide past → IsOpen (next ∷ past)
    → (decide past next ≡ Ok (next ∷ [])) × follows decide (next ∷ past)

-- How a command that decides each record at once keeps scores: after records, those given lead to
-- spines in some relation to them.
pub record Keeps (decide : Decision)
    (Leads : List Row → Path → Type 0) : Type 0 where
  pub opening : Leads [] Unopened
  pub next : (past : List Row) (row : Row) (given : Path) (rows : List Row) → IsOpen (row ∷ past)
      → Leads past given → decide past row ≡ Ok rows
      → Follow given rows × Leads (row ∷ past) (through given rows)
  pub closing : (past : List Row) (given : Path) → IsOpen past
      → is_unfinished (path_after past) ≡ false
      → Leads past given → is_unfinished given ≡ false
