-- What the state stands for.
use Rattle.std.specs.Prelude.{◌≡◌, ℕ, Bool, List, length, Option, None, Some, Result, Ok, Err}
use Rattle.hum_score.specs.Row.{Row}
use Rattle.hum_record.specs.Nulls.{null_row}
use Rattle.hum_score.specs.Spines.{Path}
use Rattle.hum_score.specs.Score.{path_after}
use Rattle.hum_stage.specs.declared.faults.Rule.{Rule}
use Rattle.hum_stage.specs.Decided.{Decision}
use Rattle.hum_stage.specs.Limits.{in_room}
use Rattle.hum_timebase.specs.Notes.{timed_in}
use Rattle.hum_timebase.specs.Clock.{clock_after}
use Rattle.hum_choices.specs.Timebase.{Pace}
use Rattle.hum_timebase.specs.Timebase.{timebase}
use Rattle.hum_timebase.specs.Kept.{Kept, kept_of}

-- It decides as the command does, has followed the spines, and keeps the ends of what lives there.
pub record Follows (pace : Pace) (path : Path) (timed : List Bool) (kept : Kept)
    (decide : Decision) (past : List Row) : Type 0 where
  pub command : decide ≡ timebase pace
  pub spines : path ≡ path_after past
  pub columns : timed ≡ timed_in (path_after past)
  pub clock : kept ≡ kept_of (clock_after past)

-- What is answered of one record: the records that it becomes, or the rule by which it is refused.
abbrev pub Answers : Result (List Row) Rule → ℕ → List Row → Option Rule → Type 0
Answers decided room rows None = decided ≡ Ok rows
Answers decided room rows (Some rule) = in_room room decided ≡ Err rule

-- the null record that stands about one with some tokens, if there are copies of it
abbrev pub IsAbout : ℕ → List (List ℕ) → Option Row → Type 0
IsAbout count tokens None = count ≡ 0
IsAbout count tokens (Some row) = row ≡ null_row (length tokens)
