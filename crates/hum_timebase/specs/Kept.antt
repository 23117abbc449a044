-- What is kept of a clock: for each spine the end of what leads to its next cell.
use Rattle.std.specs.Prelude.{◌≡◌, ℕ, ◌+◌, Bool, true, List, [], ◌∷◌, map, Option, None, Some}
use Rattle.std.specs.Prelude.{is_some}
use Rattle.std.specs.Prelude.{Result, Ok, Err, not, if◌then◌else◌}
use Rattle.std.specs.List.{list_any}
use Rattle.hum_score.specs.Row.{Row}
use Rattle.hum_score.specs.declared.spines.Move.{Move}
use Rattle.hum_path.specs.Chains.{goes_on}
use Rattle.hum_frac.specs.Ratio.{Ratio, plus}
use Rattle.hum_frac.specs.Multiples.{is_multiple}
use Rattle.hum_stage.specs.declared.faults.Rule.{Rule}
use Rattle.hum_stage.specs.declared.faults.Rule.TheVariants.{K3, B1, B2, F1}
use Rattle.hum_timebase.specs.declared.clock.Strike.{Strike}
use Rattle.hum_timebase.specs.Pairs.{over}
use Rattle.hum_timebase.specs.Notes.{notes_of, has_misread}
use Rattle.hum_timebase.specs.Ends.{latest, later, next_end}
use Rattle.hum_timebase.specs.Clock.{Clock, time_after, time_of}
use Rattle.hum_timebase.specs.Timebase.{clashes, is_too_long, count_before, count_after, around}

pub record Kept : Type 0 where
  pub last : Option Ratio
  pub next : Option Ratio
  pub ends : List (Option Ratio)

abbrev pub kept_of : Clock → Kept
kept_of clock =
    record { last = clock.last; next = clock.next; ends = map latest clock.leading }

-- Where it is settled, the next timed record comes at the least end after the last one.
abbrev pub IsSettledIf : Bool → Option Ratio → Option Ratio → List (Option Ratio) → Type 0
IsSettledIf settled last next ends = settled ≡ true → next ≡ time_after last ends

-- the end before a cell
abbrev pub end_if_timed : Bool → Option Ratio → Option Ratio
end_if_timed timed end = if timed then end else None

abbrev pub ends_before : List Bool → List (Option Ratio) → List (Option Ratio)
ends_before = over end_if_timed

-- the end after it
abbrev pub own_end : Ratio → Option Ratio → Option Ratio → Option Ratio
own_end time None end = end
own_end time (Some lasting) end = Some (plus time lasting)

abbrev pub ends_after : Ratio → List (Option Ratio) → List (Option Ratio) → List (Option Ratio)
ends_after time = over (own_end time)

-- the same of a record that may have no time
abbrev pub ends_at :
    Option Ratio → List (Option Ratio) → List (Option Ratio) → List (Option Ratio)
ends_at None notes before = before
ends_at (Some time) notes before = ends_after time notes before

-- the greatest end of the cells, from place j on, whose next cell below is that of the spine that
-- comes by a move
abbrev pub end_by : ℕ → Move → List (Option Ratio) → Option Ratio
end_by j move [] = None
end_by j move (end ∷ ends) =
    if goes_on j move then later end (end_by (j + 1) move ends) else end_by (j + 1) move ends

-- after a record without notes, and before the notes of one that has some
abbrev pub rested : List Bool → Kept → Kept
rested timed kept =
    record { last = kept.last; next = kept.next; ends = ends_before timed kept.ends }

-- after the moves of the spines
abbrev pub led : List Move → Kept → Kept
led moves kept = record {
  last = kept.last;
  next = kept.next;
  ends = map (λ move. end_by 0 move kept.ends) moves;
}

-- after the notes of a record that may have a time
abbrev pub kept_at : Option Ratio → List (Option Ratio) → Kept → Kept
kept_at None notes kept = kept
kept_at (Some time) notes kept = record {
  last = Some time;
  next = next_end time (ends_after time notes kept.ends);
  ends = ends_after time notes kept.ends;
}

abbrev pub struck : List (Option Ratio) → Kept → Kept
struck notes kept = kept_at (time_of kept.last notes kept.ends) notes kept

-- What a timed record becomes, by counts, or the rule by which it is refused.
abbrev pub strike_at : Ratio → Kept → Ratio → List (Option Ratio) → Result Strike Rule
strike_at step kept time notes =
    if clashes time notes kept.ends then Err B2
    else if list_any (is_too_long time) notes then Err F1
    else Ok (record {
      before = count_before step kept.next time;
      stays = is_multiple time step;
      after = count_after step time (next_end time (ends_after time notes kept.ends));
    })

abbrev pub strike_in : Ratio → Kept → Option Ratio → List (Option Ratio) → Result Strike Rule
strike_in step kept None notes = Err B2
strike_in step kept (Some time) notes = strike_at step kept time notes

abbrev pub strike : Ratio → Kept → List (Option Ratio) → Result Strike Rule
strike step kept notes = strike_in step kept (time_after kept.last kept.ends) notes

-- the records by the counts
abbrev pub rows_of : List (List ℕ) → Result Strike Rule → Result (List Row) Rule
rows_of tokens (Ok made) = Ok (around made.before made.stays made.after tokens)
rows_of tokens (Err rule) = Err rule

-- What a data record with a token that is neither null nor a barline becomes.
abbrev pub sounding_rows : Ratio → Kept → List Bool → List (List ℕ) → Result (List Row) Rule
sounding_rows step kept timed tokens =
    let notes = notes_of timed tokens in
    if has_misread timed tokens then Err K3
    else if not (list_any (λ timed. timed) timed) then Err B1
    else if not (list_any is_some notes) then Ok []
    else rows_of tokens (strike step kept notes)
