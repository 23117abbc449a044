-- What timebase makes of each record.
use Rattle.std.specs.Prelude.{ℕ, ◌+◌, Bool, false, ◌&&◌, not, List, [], ◌∷◌, ◌++◌, length, map}
use Rattle.std.specs.Prelude.{replicate, Option, None, Some, is_some, Result, Ok, Err}
use Rattle.std.specs.Prelude.{if◌then◌else◌}
use Rattle.std.specs.List.{list_any, list_all}
use lib.Chars.{codes}
use Rattle.hum_score.specs.declared.records.SpinedKind.TheVariants.{Interpretation, Values}
use Rattle.hum_score.specs.Row.{Row, Comment, Spined}
use Rattle.hum_score.specs.Sign.{sign_of, is_exclusive, has_exclusive}
use Rattle.hum_score.specs.Score.{path_after}
use Rattle.hum_frac.specs.Ratio.{Ratio, plus, fits, is_before}
use Rattle.hum_frac.specs.Multiples.{is_multiple, multiples_between}
use Rattle.hum_stage.specs.declared.faults.Rule.{Rule}
use Rattle.hum_stage.specs.declared.faults.Rule.TheVariants.{K3, B1, B2, F1}
use Rattle.hum_words.specs.declared.commands.Command.TheVariants.{Timebase}
use Rattle.hum_stage.specs.Meaning.{Meaning}
use Rattle.hum_stage.specs.Decided.{Decision, at_once}
use Rattle.hum_choices.specs.Timebase.{Pace}
use Rattle.hum_timebase.specs.Pairs.{paired}
use Rattle.hum_record.specs.Contents.{is_null}
use Rattle.hum_record.specs.Nulls.{null_row}
use Rattle.hum_timebase.specs.Notes.{timed_in, is_barline_record, notes_of, has_misread}
use Rattle.hum_timebase.specs.Ends.{Note, latest, next_end, living_before, living_after}
use Rattle.hum_timebase.specs.Clock.{Clock, clock_after, time_after}

-- a note at some time in a column whose end is after that
abbrev pub clash : Ratio → Option Ratio → Option Ratio → Bool
clash time (Some lasting) (Some end) = is_before time end
clash time _ _ = false

abbrev pub clashes : Ratio → List (Option Ratio) → List (Option Ratio) → Bool
clashes time notes ends = list_any (λ clash. clash) (paired (clash time) notes ends)

-- a note whose end doesn't fit
abbrev pub is_too_long : Ratio → Option Ratio → Bool
is_too_long time None = false
is_too_long time (Some lasting) = not (fits (plus time lasting))

-- how many multiples of step there are from a, it included, to b, that not included
abbrev pub multiples_from : Ratio → Ratio → Ratio → ℕ
multiples_from a b step =
    (if is_before a b && is_multiple a step then 1 else 0) + multiples_between a b step

-- how many from the least end after the last timed record to the time of this one
abbrev pub count_before : Ratio → Option Ratio → Ratio → ℕ
count_before step None time = 0
count_before step (Some end) time = multiples_from end time step

-- how many between the time and the least end after it
abbrev pub count_after : Ratio → Ratio → Option Ratio → ℕ
count_after step time None = 0
count_after step time (Some end) = multiples_between time end step

-- what stands on the grid: null records before a record, itself if it does, null records after it
abbrev pub around : ℕ → Bool → ℕ → List (List ℕ) → List Row
around before stays after tokens =
    replicate before (null_row (length tokens))
    ++ ((if stays then Spined Values tokens ∷ [] else []) ++ replicate after (null_row (length tokens)))

-- What a timed record becomes, by its time, the least ends after the last one and after this one.
abbrev pub on_grid : Ratio → Option Ratio → Ratio → Option Ratio → List (List ℕ) → List Row
on_grid step end time next =
    around (count_before step end time) (is_multiple time step) (count_after step time next)

-- the same, unless it is refused, by the ends before and after its cells
abbrev pub timed_rows : Ratio → Option Ratio → Option Ratio → List (Option Ratio)
    → List (Option Ratio) → List (Option Ratio) → List (List ℕ) → Result (List Row) Rule
timed_rows step end None notes before after tokens = Err B2
timed_rows step end (Some time) notes before after tokens =
    if clashes time notes before then Err B2
    else if list_any (is_too_long time) notes then Err F1
    else Ok (on_grid step end time (next_end time after) tokens)

-- what lives after the cells of a record, if it has a time
abbrev pub living_at : Option Ratio → List (Option Ratio) → List (List Note) → List (List Note)
living_at None notes before = before
living_at (Some time) notes before = living_after time notes before

-- What a data record becomes, by the clock before it and the columns that are timed.
abbrev pub data_rows : Ratio → Clock → List Bool → List (List ℕ) → Result (List Row) Rule
data_rows step clock timed tokens =
    let notes = notes_of timed tokens in
    let before = living_before timed clock.leading in
    let time = time_after clock.last (map latest before) in
    if is_barline_record tokens then Ok (Spined Values tokens ∷ [])
    else if list_all is_null tokens then Ok []
    else if has_misread timed tokens then Err K3
    else if not (list_any (λ timed. timed) timed) then Err B1
    else if not (list_any is_some notes) then Ok []
    else timed_rows step clock.next time notes (map latest before)
    (map latest (living_at time notes before)) tokens

abbrev pub names_some : List (List ℕ) → Bool
names_some = has_exclusive

-- the token under an exclusive interpretation, and under others
abbrev pub tb_token : List ℕ → List ℕ → List ℕ
tb_token text token = if is_exclusive (sign_of token) then codes "*tb" ++ text else codes "*"

-- the record that follows one with exclusive interpretations
abbrev pub tb_row : List ℕ → List (List ℕ) → Row
tb_row text tokens = Spined Interpretation (map (tb_token text) tokens)

abbrev pub interpretation_rows : List ℕ → List (List ℕ) → Result (List Row) Rule
interpretation_rows text tokens =
    if not (names_some tokens) then Ok (Spined Interpretation tokens ∷ [])
    else Ok (Spined Interpretation tokens ∷ tb_row text tokens ∷ [])

-- What a record becomes, after the records above it, the newest first: the records that are left
-- and those that are put between stand at the multiples of the step.
abbrev pub timebase : Pace → Decision
timebase pace past (Comment comment) = Ok (Comment comment ∷ [])
timebase pace past (Spined Interpretation tokens) = interpretation_rows pace.text tokens
timebase pace past (Spined Values tokens) =
    data_rows pace.step (clock_after past) (timed_in (path_after past)) tokens
timebase pace past (Spined kind tokens) = Ok (Spined kind tokens ∷ [])

-- what the stage of this number means
abbrev pub meaning : ℕ → Pace → Meaning
meaning stage pace = at_once stage Timebase (timebase pace)
