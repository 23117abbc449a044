-- The time of each record.
use Rattle.std.specs.Prelude.{List, [], ◌∷◌, map, Option, None, Some, is_some}
use Rattle.std.specs.Prelude.{if◌then◌else◌}
use Rattle.std.specs.List.{list_any}
use Rattle.hum_score.specs.declared.records.SpinedKind.TheVariants.{Interpretation, Values}
use Rattle.hum_score.specs.Row.{Row, Comment, Spined}
use Rattle.hum_score.specs.declared.spines.Move.{Move}
use Rattle.hum_score.specs.Spines.{moves_at}
use Rattle.hum_score.specs.Score.{path_after}
use Rattle.hum_frac.specs.Ratio.{Ratio, whole}
use Rattle.hum_timebase.specs.Notes.{timed_in, timed_at, notes_of}
use Rattle.hum_timebase.specs.Ends.{Note, latest, next_end, living_before, living_after, led_by}

-- After some records: the time of the last timed one, the least end after it, and for each spine
-- the notes that lead to its next cell.
pub record Clock : Type 0 where
  pub last : Option Ratio
  pub next : Option Ratio
  pub leading : List (List Note)

abbrev pub beginning : Clock
beginning = record { last = None; next = None; leading = [] }

-- The first timed record has time 0. Each later one has the least end before its cells that is
-- after the last timed record's time.
abbrev pub time_after : Option Ratio → List (Option Ratio) → Option Ratio
time_after None ends = Some (whole 0)
time_after (Some last) ends = next_end last ends

-- the same of a record, which is timed if it has a note
abbrev pub time_of : Option Ratio → List (Option Ratio) → List (Option Ratio) → Option Ratio
time_of last notes ends = if list_any is_some notes then time_after last ends else None

-- the clock goes on with what lives after the cells of a record
abbrev pub led_on : Clock → List (List Note) → Clock
led_on clock after = record { last = clock.last; next = clock.next; leading = after }

-- the same under an interpretation, by the moves of its spines
abbrev pub moved_on : Clock → List (List Note) → List Move → Clock
moved_on clock after moves = led_on clock (map (λ move. led_by 0 move after) moves)

-- the same under a data record, which has a time if it is timed
abbrev pub ticked : Clock → Option Ratio → List (Option Ratio) → List (List Note) → Clock
ticked clock None notes before = led_on clock before
ticked clock (Some time) notes before = record {
  last = Some time;
  next = next_end time (map latest (living_after time notes before));
  leading = living_after time notes before;
}

abbrev pub tick : Clock → List (Option Ratio) → List (List Note) → Clock
tick clock notes before =
    ticked clock (time_of clock.last notes (map latest before)) notes before

-- After records, the newest first.
abbrev pub clock_after : List Row → Clock
clock_after [] = beginning
clock_after (Comment text ∷ past) = clock_after past
clock_after (Spined Interpretation tokens ∷ past) =
    let clock = clock_after past in
    moved_on clock (living_before (timed_at (path_after past) tokens) clock.leading)
    (moves_at (path_after past) tokens)
clock_after (Spined Values tokens ∷ past) =
    let clock = clock_after past in
    let timed = timed_in (path_after past) in
    tick clock (notes_of timed tokens) (living_before timed clock.leading)
clock_after (Spined kind tokens ∷ past) =
    let clock = clock_after past in
    led_on clock (living_before (timed_in (path_after past)) clock.leading)
