-- What is remembered of the records so far.
use Rattle.std.specs.Prelude.{◌≡◌, ℕ, Bool, true, false, List, [], length, map}
use Rattle.std.specs.Prelude.{slice_index_or, Option, None, Some, Result, Ok, Err}
use Rattle.hum_score.specs.declared.records.SpinedKind.TheVariants.{Interpretation}
use Rattle.hum_score.specs.Row.{Row, Comment, Spined, tokens_of, text_of, width_of}
use Rattle.hum_score.specs.Spelling.{IsTextOf}
use Rattle.hum_score.specs.declared.spines.Move.{Move}
use Rattle.hum_score.specs.Spines.{Path, source, moves, after}
use Rattle.hum_score.specs.Score.{path_after}
use Rattle.hum_stage.specs.declared.faults.Rule.{Rule}
use Rattle.hum_stage.specs.Decided.{Decision}
use Rattle.hum_stage.specs.Limits.{in_room}
use Rattle.hum_columns.specs.Chosen.{flags}
use Rattle.hum_columns.specs.Deciding.{ColumnCommand, by_columns}

-- for each column that comes by a move whether it is chosen, given the same of those before
abbrev pub moved : List Bool → List Move → List Bool
moved flags moves = map (λ move. slice_index_or flags (source move) false) moves

-- the spines so far, for each of their columns whether it is chosen, and whether memory ran out
pub record Memory : Type 0 where
  pub path : Path
  pub each : List Bool
  pub spent : Bool

-- the same where memory hasn't run out
abbrev pub memory : Path → List Bool → Memory
memory path each = record { path = path; each = each; spent = false }

-- one interpretation later
abbrev pub passed : Memory → Row → Memory
passed m row = memory (after m.path row) (moved m.each (moves m.path row))

-- a memory stands for these records
pub record Follows (command : ColumnCommand) (m : Memory)
    (decide : Decision) (past : List Row) : Type 0 where
  pub decides : decide ≡ by_columns command
  pub spines : m.path ≡ path_after past
  pub marks : m.each ≡ flags command.choose past

-- as many marks as a spined record has tokens
abbrev pub AsWide : List Bool → Row → Type 0
AsWide flags (Comment text) = Unit {0}
AsWide flags (Spined kind tokens) = length flags ≡ length tokens

-- whether a record is an interpretation
abbrev pub is_interpretation : Row → Bool
is_interpretation (Comment text) = false
is_interpretation (Spined Interpretation tokens) = true
is_interpretation (Spined kind tokens) = false

-- What an interpretation after the opening record is taken with: its text, a mark for each of its
-- tokens, and nothing that is due.
pub record IsPassed (marks : List Bool) (row : Row) (due : List Row) : Type 0 where
  pub kind : row ≡ Spined Interpretation (tokens_of row)
  pub lawful : IsTextOf row (text_of row)
  pub as_wide : length marks ≡ width_of row
  pub empty : due ≡ []

-- What is answered of one record: the records that it becomes, or the rule by which it is refused.
abbrev pub Answers : Result (List Row) Rule → ℕ → List Row → Option Rule → Type 0
Answers decided room rows None = decided ≡ Ok rows
Answers decided room rows (Some rule) = in_room room decided ≡ Err rule

-- The same where it is refused exactly if there is no room for what it becomes, and then gives
-- nothing.
abbrev pub AnswersInRoom : Result (List Row) Rule → ℕ → List Row → Option Rule → Type 0
AnswersInRoom decided room rows None = in_room room decided ≡ Ok rows
AnswersInRoom decided room rows (Some rule) = (in_room room decided ≡ Err rule) × (rows ≡ [])
