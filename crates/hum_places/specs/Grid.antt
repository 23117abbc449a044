-- The records that timebase makes of one with notes, by the multiples of the step that they stand at.
use Rattle.std.specs.Prelude.{◌≡◌, ℕ, ◌+◌, ◌<◌, ◌↔◌, true}
use Rattle.std.specs.Prelude.{List, [], ◌∷◌, ◌++◌, length, map}
use Rattle.std.specs.Prelude.{slice_index_or, Option, None, Some, is_some, Ok, slice_get}
use Rattle.std.specs.List.{list_any, Contains}
use Rattle.hum_score.specs.declared.records.SpinedKind.TheVariants.{Values}
use Rattle.hum_score.specs.Row.{Row, Spined}
use Rattle.hum_record.specs.Nulls.{null_row}
use Rattle.hum_score.specs.Score.{path_after}
use Rattle.hum_frac.specs.Ratio.{Ratio, IsBefore}
use Rattle.hum_frac.specs.Multiples.{times, IsMultiple}
use Rattle.hum_timebase.specs.Notes.{timed_in, notes_of}
use Rattle.hum_timebase.specs.Ends.{latest}
use Rattle.hum_timebase.specs.Clock.{clock_after}
use Rattle.hum_choices.specs.Timebase.{Pace}
use Rattle.hum_timebase.specs.Timebase.{timebase}

-- These number the multiples of t that pass: each of them once, the least first.
pub record AreMultiples (t : Ratio) (Passes : Ratio → Type 0) (numbers : List ℕ) : Type 0 where
  pub ascending : (i : ℕ) → i + 1 < length numbers
      → slice_index_or numbers i 0 < slice_index_or numbers (i + 1) 0
  pub all : (k : ℕ) → Contains numbers k ↔ Passes (times k t)

-- from an end, it included, to a time, that not included
abbrev pub IsFrom : Option Ratio → Ratio → Ratio → Type 0
IsFrom None time m = ⊥
IsFrom (Some end) time m = (¬ IsBefore m end) × IsBefore m time

-- strictly between a time and an end
abbrev pub IsWithin : Ratio → Option Ratio → Ratio → Type 0
IsWithin time None m = ⊥
IsWithin time (Some end) m = IsBefore time m × IsBefore m end

-- for each multiple a null record as wide as another
abbrev pub nulls_at : List (List ℕ) → List ℕ → List Row
nulls_at tokens numbers = map (λ k. null_row (length tokens)) numbers

-- A record at a time, the least end after the last one and the least after it: null records at the
-- multiples from that end on, it included, up to its time; itself, where its time is a multiple; and
-- null records at those strictly between its time and the end after it.
pub record StandAtMultiples (t : Ratio) (last : Option Ratio) (time : Ratio) (next : Option Ratio)
    (tokens : List (List ℕ)) (rows : List Row) : Type 0 where
  pub before : List ℕ
  pub own : List Row
  pub after : List ℕ
  pub earlier : AreMultiples t (IsFrom last time) before
  pub stays : IsMultiple time t → own ≡ Spined Values tokens ∷ []
  pub goes : ¬ IsMultiple time t → own ≡ []
  pub later : AreMultiples t (IsWithin time next) after
  pub whole : rows ≡ nulls_at tokens before ++ (own ++ nulls_at tokens after)

-- an end that is one of these and after a time, and that none of them after the time is before
pub record IsLeast (time : Ratio) (ends : List (Option Ratio)) (least : Ratio) : Type 0 where
  pub place : ℕ
  pub one : slice_get ends place ≡ Some (Some least)
  pub after : IsBefore time least
  pub first : (i : ℕ) (end : Ratio) → slice_get ends i ≡ Some (Some end) → IsBefore time end
      → ¬ IsBefore end least

-- the least of some ends that are after a time, if there are any
abbrev pub IsLeastAfter : Ratio → List (Option Ratio) → Option Ratio → Type 0
IsLeastAfter time ends None =
    (i : ℕ) (end : Ratio) → slice_get ends i ≡ Some (Some end) → ¬ IsBefore time end
IsLeastAfter time ends (Some least) = IsLeast time ends least

-- So are the records that timebase makes of one with notes, by the clock before it and after it; and
-- the clock after it has the least end after its time, of what leads to each spine's next cell.
abbrev pub GridByMultiples : Pace → List Row → List (List ℕ) → Type 0
GridByMultiples pace past tokens =
    0 < pace.step.top → 0 < pace.step.bottom
    → list_any is_some (notes_of (timed_in (path_after past)) tokens) ≡ true
    → (time : Ratio) → (clock_after (Spined Values tokens ∷ past)).last ≡ Some time
    → (rows : List Row) → timebase pace past (Spined Values tokens) ≡ Ok rows
    → StandAtMultiples pace.step (clock_after past).next time
    (clock_after (Spined Values tokens ∷ past)).next tokens rows
    × IsLeastAfter time (map latest (clock_after (Spined Values tokens ∷ past)).leading)
    (clock_after (Spined Values tokens ∷ past)).next

-- Two lists of records that are so are one.
abbrev pub IsOneGrid : Ratio → Option Ratio → Ratio → Option Ratio → List (List ℕ) → Type 0
IsOneGrid t last time next tokens =
    (rows others : List Row) → StandAtMultiples t last time next tokens rows
    → StandAtMultiples t last time next tokens others → rows ≡ others
