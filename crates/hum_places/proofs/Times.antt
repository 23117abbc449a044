-- Times and ends on the clock have bottoms above 0.
use Rattle.std.proofs.lemmas.Bool.Decides.{nat_tests}
use Rattle.std.proofs.Common.{List, [], ◌∷◌, map, Option, arith}
use Rattle.std.specs.Prelude.{is_some}
use Rattle.std.specs.List.{list_any}
use Rattle.hum_score.specs.declared.records.SpinedKind.TheVariants.{Local, Interpretation, Values}
use Rattle.hum_score.specs.Row.{Row, Comment, Spined}
use Rattle.hum_score.proofs.Cases.{by_bool}
use Rattle.hum_score.specs.Score.{path_after}
use Rattle.hum_frac.specs.Ratio.{Ratio}
use Rattle.hum_timebase.specs.Notes.{timed_in, notes_of}
use Rattle.hum_timebase.specs.Ends.{Note, latest, next_end, living_before}
use Rattle.hum_timebase.specs.Clock.{Clock, time_after, time_of, ticked, clock_after}
use Rattle.hum_timebase.proofs.Lasting.{IsPositive, ArePositive, AllSound, latest_positive, before_sound, all_sound}

pub all_positive : (living : List (List Note)) → AllSound living → ArePositive (map latest living)
all_positive [] h = tt
all_positive (notes ∷ living) h = (latest_positive notes h.0, all_positive living h.1)

next_positive : (time : Ratio) (ends : List (Option Ratio)) → ArePositive ends → IsPositive (next_end time ends)
next_positive time [] h = tt
next_positive time (end ∷ ends) h = grind (arith, nat_tests, next_positive time ends h.1)

time_positive : (last : Option Ratio) (ends : List (Option Ratio)) → ArePositive ends → IsPositive (time_after last ends)
time_positive = grind (arith, nat_tests, next_positive)

time_of_positive : (last : Option Ratio) (notes ends : List (Option Ratio)) → ArePositive ends → IsPositive (time_of last notes ends)
time_of_positive last notes ends h = by_bool (list_any is_some notes) (λ w. rw w (time_positive last ends h)) (λ w. rw w tt)

abbrev before_of : List Row → List (List Note)
before_of past = living_before (timed_in (path_after past)) (clock_after past).leading

last_ticked : (clock : Clock) (time : Option Ratio) (notes : List (Option Ratio)) (before : List (List Note))
    → IsPositive clock.last → IsPositive time → IsPositive (ticked clock time notes before).last
last_ticked = grind (arith, nat_tests)

next_ticked : (clock : Clock) (time : Option Ratio) (notes : List (Option Ratio)) (before : List (List Note))
    → IsPositive clock.next → AllSound (ticked clock time notes before).leading → IsPositive (ticked clock time notes before).next
next_ticked = grind (arith, nat_tests, next_positive, all_positive)

-- the time of the last record with notes, and the least end after it
pub last_positive : (past : List Row) → IsPositive (clock_after past).last
last_positive [] = tt
last_positive (Comment text ∷ past) = last_positive past
last_positive (Spined Local tokens ∷ past) = last_positive past
last_positive (Spined Interpretation tokens ∷ past) = last_positive past
last_positive (Spined Values tokens ∷ past) =
    let before = before_of past in
    let notes = notes_of (timed_in (path_after past)) tokens in
    let clock = clock_after past in
    let sound = before_sound (timed_in (path_after past)) clock.leading (all_sound past) in
    last_ticked clock (time_of clock.last notes (map latest before)) notes before (last_positive past)
    (time_of_positive clock.last notes (map latest before) (all_positive before sound))

pub next_is_positive : (past : List Row) → IsPositive (clock_after past).next
next_is_positive [] = tt
next_is_positive (Comment text ∷ past) = next_is_positive past
next_is_positive (Spined Local tokens ∷ past) = next_is_positive past
next_is_positive (Spined Interpretation tokens ∷ past) = next_is_positive past
next_is_positive (Spined Values tokens ∷ past) =
    let before = before_of past in
    let notes = notes_of (timed_in (path_after past)) tokens in
    let clock = clock_after past in
    next_ticked clock (time_of clock.last notes (map latest before)) notes before (next_is_positive past)
    (all_sound (Spined Values tokens ∷ past))
