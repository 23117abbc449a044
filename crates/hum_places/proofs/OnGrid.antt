-- The records of timebase, by the multiples that they stand at.
use Rattle.std.proofs.lemmas.Bool.Decides.{nat_tests}
use Rattle.std.proofs.Common.{◌≡◌, ◌∙◌, refl, sym, ap, subst, ℕ, ◌-◌, ◌<◌, Bool, true, false, List, [], ◌∷◌, length}
use Rattle.std.proofs.Common.{map, replicate, Option, None, Some, Result, Ok, Err, arith}
use Rattle.std.specs.Prelude.{is_some}
use Rattle.std.specs.List.{list_any}
use Rattle.hum_score.specs.declared.records.SpinedKind.TheVariants.{Values}
use Rattle.hum_score.specs.Row.{Row, Spined}
use Rattle.hum_record.specs.Nulls.{null_row}
use Rattle.hum_score.proofs.Cases.{by_bool}
use Rattle.hum_score.specs.Score.{path_after}
use Rattle.hum_frac.specs.Ratio.{Ratio}
use Rattle.hum_frac.specs.Multiples.{is_multiple, first_after, first_from, multiples_between}
use Rattle.hum_frac.proofs.Ratios.{multiple_test}
use Rattle.hum_stage.specs.declared.faults.Rule.{Rule}
use Rattle.hum_timebase.specs.Notes.{timed_in, notes_of, is_sounding}
use Rattle.hum_timebase.specs.Ends.{Note, latest, next_end, living_before, living_after}
use Rattle.hum_timebase.specs.Clock.{Clock, clock_after, time_after, time_of, ticked}
use Rattle.hum_choices.specs.Timebase.{Pace}
use Rattle.hum_timebase.specs.Timebase.{count_before, count_after}
use Rattle.hum_timebase.specs.Timebase.{on_grid, timed_rows, living_at, data_rows}
use Rattle.hum_timebase.proofs.Lasting.{IsPositive, AllSound, all_sound}
use Rattle.hum_timebase.proofs.Reading.{sounds_some, no_notes}
use Rattle.hum_places.specs.Grid.{AreMultiples, IsFrom, IsWithin, nulls_at, StandAtMultiples, IsLeastAfter, GridByMultiples}
use Rattle.hum_places.proofs.Multiples.{run, replicated, within_so, from_so, counted_from}
use Rattle.hum_places.proofs.Times.{all_positive, last_positive, next_is_positive}
use Rattle.hum_places.proofs.LeastEnds.{next_is_least}

-- a list of multiples, and so many null records
record Listed (t : Ratio) (Passes : Ratio → Type 0) (tokens : List (List ℕ)) (count : ℕ) : Type 0 where
  numbers : List ℕ
  are : AreMultiples t Passes numbers
  nulls : replicate count (null_row (length tokens)) ≡ nulls_at tokens numbers

none_pass : (t : Ratio) (Passes : Ratio → Type 0) (tokens : List (List ℕ)) → ((m : Ratio) → ¬ Passes m) → Listed t Passes tokens 0
none_pass = grind (arith, nat_tests)

module _ (t : Ratio) (top : 0 < t.top) (bottom : 0 < t.bottom) (tokens : List (List ℕ)) where
  listed_before : (last : Option Ratio) (time : Ratio) → IsPositive last → 0 < time.bottom
      → Listed t (IsFrom last time) tokens (count_before t last time)
  listed_before None time p q = none_pass t (IsFrom None time) tokens (λ m h. h)
  listed_before (Some end) time p q = record {
    numbers = run (first_from end t) (first_from time t - first_from end t);
    are = from_so t top end time p q;
    nulls = ap (λ (n : ℕ). replicate n (null_row (length tokens))) (counted_from t top bottom end time p q)
        ∙ replicated (null_row (length tokens)) (first_from end t) (first_from time t - first_from end t);
  }

  listed_after : (time : Ratio) (next : Option Ratio) → 0 < time.bottom → IsPositive next
      → Listed t (IsWithin time next) tokens (count_after t time next)
  listed_after time None p q = none_pass t (IsWithin time None) tokens (λ m h. h)
  listed_after time (Some end) p q = record {
    numbers = run (first_after time t) (multiples_between time end t);
    are = within_so t top time end p q;
    nulls = replicated (null_row (length tokens)) (first_after time t) (multiples_between time end t);
  }

  abbrev own_rows : Bool → List Row
  own_rows true = Spined Values tokens ∷ []
  own_rows false = []

  grid_so : (last : Option Ratio) (time : Ratio) (next : Option Ratio) (rows : List Row)
      → IsPositive last → 0 < time.bottom → IsPositive next → on_grid t last time next tokens ≡ rows
      → StandAtMultiples t last time next tokens rows
  grid_so last time next rows p q r e =
      let a = listed_before last time p q in
      let b = listed_after time next q r in
      by_bool (is_multiple time t)
      (λ w. so (a, b) true w)
      (λ w. so (a, b) false w)
    where
      so : Listed t (IsFrom last time) tokens (count_before t last time) × Listed t (IsWithin time next) tokens (count_after t time next)
          → (stays : Bool) → is_multiple time t ≡ stays → StandAtMultiples t last time next tokens rows
      so = grind (arith, nat_tests, multiple_test, replicate)

not_ok : {X : Type 0} {rule : Rule} {rows : List Row} → ◌≡◌ {A = Result (List Row) Rule} (Err rule) (Ok rows) → X
not_ok = grind (arith, nat_tests)

module _ (step : Ratio) (clock : Clock) (timed : List Bool) (tokens : List (List ℕ)) (rows : List Row)
    (noted : list_any is_some (notes_of timed tokens) ≡ true) where
  abbrev notes : List (Option Ratio)
  notes = notes_of timed tokens

  abbrev before : List (List Note)
  before = living_before timed clock.leading

  abbrev at : Option Ratio
  at = time_after clock.last (map latest before)

  some_sounds : list_any is_sounding tokens ≡ true
  some_sounds = by_bool (list_any is_sounding tokens) (λ w. w) (λ w. let none = no_notes timed tokens w in cc)

  -- a record with notes is timed
  timed_so : data_rows step clock timed tokens ≡ Ok rows
      → timed_rows step clock.next at notes (map latest before) (map latest (living_at at notes before)) tokens ≡ Ok rows
  timed_so = grind (arith, nat_tests, some_sounds, sounds_some, not_ok)

  -- one at a time is on the grid
  rows_so : (time : Ratio) → timed_rows step clock.next (Some time) notes (map latest before) (map latest (living_after time notes before)) tokens ≡ Ok rows
      → on_grid step clock.next time (next_end time (map latest (living_after time notes before))) tokens ≡ rows
  rows_so = grind (arith, nat_tests)

  ticked_so : 0 < step.top → 0 < step.bottom → (time : Ratio) (o : Option Ratio)
      → timed_rows step clock.next o notes (map latest before) (map latest (living_at o notes before)) tokens ≡ Ok rows
      → (ticked clock o notes before).last ≡ Some time → IsPositive clock.next
      → IsPositive (ticked clock o notes before).last → IsPositive (ticked clock o notes before).next
      → AllSound (ticked clock o notes before).leading
      → StandAtMultiples step clock.next time (ticked clock o notes before).next tokens rows
      × IsLeastAfter time (map latest (ticked clock o notes before).leading) (ticked clock o notes before).next
  ticked_so top bottom time None e told p q r sound = not_ok e
  ticked_so top bottom time (Some here) e told p q r sound =
      let same : here ≡ time = cc in
      let ends = map latest (living_after here notes before) in
      subst (λ (t : Ratio). StandAtMultiples step clock.next t (next_end here ends) tokens rows × IsLeastAfter t ends (next_end here ends)) same (
        grid_so step top bottom tokens clock.next here (next_end here ends) rows p q r (rows_so here e),
        next_is_least here ends (all_positive (living_after here notes before) sound),
      )

pub by_multiples : (pace : Pace) (past : List Row) (tokens : List (List ℕ)) → GridByMultiples pace past tokens
by_multiples pace past tokens top bottom noted time told rows e =
    let clock = clock_after past in
    let timed = timed_in (path_after past) in
    let notes = notes_of timed tokens in
    let before = living_before timed clock.leading in
    let same : time_of clock.last notes (map latest before) ≡ time_after clock.last (map latest before) = rw noted refl in
    ticked_so pace.step clock timed tokens rows noted top bottom time (time_of clock.last notes (map latest before))
    (subst (λ (o : Option Ratio).
    timed_rows pace.step clock.next o notes (map latest before) (map latest (living_at o notes before)) tokens ≡ Ok rows)
    (sym same) (timed_so pace.step clock timed tokens rows noted e))
    told (next_is_positive past) (last_positive (Spined Values tokens ∷ past)) (next_is_positive (Spined Values tokens ∷ past))
    (all_sound (Spined Values tokens ∷ past))
