-- Notes, where they end, and which of them live at a cell.
use Rattle.std.specs.Prelude.{ℕ, ◌+◌, Bool, List, [], ◌∷◌, ◌++◌, Option, None, Some}
use Rattle.std.specs.Prelude.{if◌then◌else◌}
use Rattle.hum_frac.specs.Ratio.{Ratio, plus, is_before}
use Rattle.hum_score.specs.declared.spines.Move.{Move}
use Rattle.hum_path.specs.Chains.{goes_on}
use Rattle.hum_timebase.specs.Pairs.{over}

-- a note: the time of its record, and its duration
pub record Note : Type 0 where
  pub onset : Ratio
  pub lasting : Ratio

abbrev pub end_of : Note → Ratio
end_of note = plus note.onset note.lasting

-- the later of two ends, where there are any
abbrev pub later : Option Ratio → Option Ratio → Option Ratio
later None other = other
later (Some a) None = Some a
later (Some a) (Some b) = if is_before a b then Some b else Some a

-- the sooner
abbrev pub sooner : Option Ratio → Option Ratio → Option Ratio
sooner None other = other
sooner (Some a) None = Some a
sooner (Some a) (Some b) = if is_before b a then Some b else Some a

-- the end of the one of some notes that ends last
abbrev pub latest : List Note → Option Ratio
latest [] = None
latest (note ∷ notes) = later (Some (end_of note)) (latest notes)

-- an end, if it is after a time
abbrev pub beyond : Ratio → Option Ratio → Option Ratio
beyond time None = None
beyond time (Some end) = if is_before time end then Some end else None

-- the least of some ends that is after a time
abbrev pub next_end : Ratio → List (Option Ratio) → Option Ratio
next_end time [] = None
next_end time (end ∷ ends) = sooner (beyond time end) (next_end time ends)

-- what lives before a cell: the notes that lead to it, if its column is timed
abbrev pub if_timed : Bool → List Note → List Note
if_timed timed notes = if timed then notes else []

abbrev pub living_before : List Bool → List (List Note) → List (List Note)
living_before = over if_timed

-- what lives after it: its own note, else what lives before it
abbrev pub own_or : Ratio → Option Ratio → List Note → List Note
own_or time None before = before
own_or time (Some lasting) before = record { onset = time; lasting = lasting } ∷ []

abbrev pub living_after : Ratio → List (Option Ratio) → List (List Note) → List (List Note)
living_after time = over (own_or time)

-- The notes that live after the cells, from place j on, whose next cell below is that of the spine
-- that comes by a move.
abbrev pub led_by : ℕ → Move → List (List Note) → List Note
led_by j move [] = []
led_by j move (notes ∷ after) =
    if goes_on j move then notes ++ led_by (j + 1) move after else led_by (j + 1) move after
