-- timebase writes lawful records.
use Rattle.std.proofs.Common.{◌≡◌, ◌≢◌, refl, ℕ, zero, suc, Bool, true, false, cond, not, List, [], ◌∷◌, ◌++◌, length, map, replicate, arith}
use Rattle.std.specs.Prelude.{Option, None, Some, is_some, Result, Ok, Err}
use Rattle.std.specs.List.{AllByRecursion, list_any, list_all}
use lib.Chars.{codes}
use Rattle.hum_score.specs.declared.records.SpinedKind.TheVariants.{Local, Interpretation, Values}
use Rattle.hum_score.specs.Row.{Row, Comment, Spined}
use Rattle.hum_record.specs.Nulls.{nulls, null_row}
use Rattle.hum_score.specs.Spelling.{IsToken}
use Rattle.hum_record.specs.Contents.{is_null}
use Rattle.hum_score.specs.Sign.{sign_of, is_exclusive}
use Rattle.hum_score.specs.Score.{IsOpen, path_after}
use Rattle.hum_frac.specs.Ratio.{Ratio}
use Rattle.hum_frac.specs.Multiples.{is_multiple}
use Rattle.hum_stage.specs.declared.faults.Rule.{Rule}
use Rattle.hum_stage.specs.declared.faults.Rule.TheVariants.{K3, B1, B2, F1}
use Rattle.hum_timebase.specs.Notes.{timed_in, is_barline_record, notes_of, has_misread}
use Rattle.hum_timebase.specs.Ends.{Note, latest, next_end, living_before}
use Rattle.hum_timebase.specs.Clock.{Clock, clock_after, time_after}
use Rattle.hum_choices.specs.Timebase.{Pace}
use Rattle.hum_timebase.specs.Timebase.{clashes, is_too_long, around, on_grid, count_before, count_after, timed_rows, living_at}
use Rattle.hum_timebase.specs.Timebase.{data_rows, names_some, tb_token, tb_row, timebase}
use Rattle.hum_timebase.specs.Writing.{IsPace}
use Rattle.hum_timebase.proofs.Writing.{null_fits, tb_short, few_tokens}
use Rattle.hum_valid.specs.Records.{IsRecord, AreRecords}
use Rattle.hum_valid.proofs.Lists.{both, made_of, made_so, dot, star}
use Rattle.hum_valid.proofs.Filling.{same_record}
use Rattle.hum_valid.proofs.Stages.{DecidesRecords}

dots : (width : ℕ) → AllByRecursion (IsToken Values) (nulls Values width)
dots zero = tt
dots (suc width) = (dot, dots width)

some_dots : (tokens : List (List ℕ)) → tokens ≢ [] → nulls Values (length tokens) ≢ []
some_dots [] some e = some refl
some_dots (t ∷ ts) some e = cc

null_record : (tokens : List (List ℕ)) → IsRecord (Spined Values tokens) → IsRecord (null_row (length tokens))
null_record tokens is =
    made_of Values (nulls Values (length tokens)) (some_dots tokens is.1) (dots (length tokens)) (null_fits (Spined Values tokens) is refl)

copies : (n : ℕ) (row : Row) → IsRecord row → AreRecords (replicate n row)
copies zero row is = tt
copies (suc n) row is = (is, copies n row is)

around_records : (before : ℕ) (stays : Bool) (after : ℕ) (tokens : List (List ℕ)) → IsRecord (Spined Values tokens)
    → AreRecords (around before stays after tokens)
around_records before stays after tokens is =
    both (replicate before (null_row (length tokens))) (cond stays (Spined Values tokens ∷ []) [] ++ replicate after (null_row (length tokens)))
    (copies before (null_row (length tokens)) (null_record tokens is))
    (both (cond stays (Spined Values tokens ∷ []) []) (replicate after (null_row (length tokens))) (itself stays)
    (copies after (null_row (length tokens)) (null_record tokens is)))
  where
    itself : (b : Bool) → AreRecords (cond b (Spined Values tokens ∷ []) [])
    itself true = (is, tt)
    itself false = tt

timed_records : (step : Ratio) (end time : Option Ratio) (notes before after : List (Option Ratio)) (tokens : List (List ℕ))
    (rows : List Row) → IsRecord (Spined Values tokens) → timed_rows step end time notes before after tokens ≡ Ok rows → AreRecords rows
timed_records step end None notes before after tokens rows is e = cc
timed_records step end (Some time) notes before after tokens rows is e =
    by (clashes time notes before) (list_any (is_too_long time) notes) e
  where
    made : List Row
    made = on_grid step end time (next_end time after) tokens

    by : (a b : Bool) → ◌≡◌ {A = Result (List Row) Rule} (cond a (Err B2) (cond b (Err F1) (Ok made))) (Ok rows) → AreRecords rows
    by true b e = cc
    by false true e = cc
    by false false e =
        made_so made rows e
        (around_records (count_before step end time) (is_multiple time step) (count_after step time (next_end time after)) tokens is)

data_records : (step : Ratio) (clock : Clock) (timed : List Bool) (tokens : List (List ℕ)) (rows : List Row)
    → IsRecord (Spined Values tokens) → data_rows step clock timed tokens ≡ Ok rows → AreRecords rows
data_records step clock timed tokens rows is e =
    by (is_barline_record tokens) (list_all is_null tokens) (has_misread timed tokens) (not (list_any (λ t. t) timed))
    (not (list_any is_some notes)) e
  where
    notes : List (Option Ratio)
    notes = notes_of timed tokens

    before : List (List Note)
    before = living_before timed clock.leading

    time : Option Ratio
    time = time_after clock.last (map latest before)

    last : Result (List Row) Rule
    last = timed_rows step clock.next time notes (map latest before) (map latest (living_at time notes before)) tokens

    by : (a b c d f : Bool)
        → cond a (Ok (Spined Values tokens ∷ [])) (cond b (Ok []) (cond c (Err K3) (cond d (Err B1) (cond f (Ok []) last)))) ≡ Ok rows
        → AreRecords rows
    by true b c d f e = made_so (Spined Values tokens ∷ []) rows e (is, tt)
    by false true c d f e = made_so [] rows e tt
    by false false true d f e = cc
    by false false false true f e = cc
    by false false false false true e = made_so [] rows e tt
    by false false false false false e =
        timed_records step clock.next time notes (map latest before) (map latest (living_at time notes before)) tokens rows is e

module _ (pace : Pace) (lawful : IsPace pace.step pace.text) where
  told_tokens : (tokens : List (List ℕ)) → AllByRecursion (IsToken Interpretation) (map (tb_token pace.text) tokens)
  told_tokens [] = tt
  told_tokens (t ∷ ts) = (by (is_exclusive (sign_of t)), told_tokens ts)
    where
      by : (b : Bool) → IsToken Interpretation (cond b (codes "*tb" ++ pace.text) (codes "*"))
      by true = lawful.lawful
      by false = star

  some_told : (tokens : List (List ℕ)) → tokens ≢ [] → map (tb_token pace.text) tokens ≢ []
  some_told [] some e = some refl
  some_told (t ∷ ts) some e = cc

  told_record : (past : List Row) (tokens : List (List ℕ)) → IsOpen (Spined Interpretation tokens ∷ past)
      → IsRecord (Spined Interpretation tokens) → IsRecord (tb_row pace.text tokens)
  told_record past tokens opens is =
      let few = few_tokens past (Spined Interpretation tokens) opens refl in
      let short = tb_short pace.text tokens lawful.short in
      made_of Interpretation (map (tb_token pace.text) tokens) (some_told tokens is.1) (told_tokens tokens)
      (omega (arith, few, short))

  pub timebase_records : DecidesRecords (timebase pace)
  timebase_records past (Comment text) rows opens are e = same_record (Comment text) rows are.0 e
  timebase_records past (Spined Local tokens) rows opens are e = same_record (Spined Local tokens) rows are.0 e
  timebase_records past (Spined Interpretation tokens) rows opens are e = by (not (names_some tokens)) e
    where
      by : (b : Bool)
          → ◌≡◌ {A = Result (List Row) Rule} (cond b (Ok (Spined Interpretation tokens ∷ []))
          (Ok (Spined Interpretation tokens ∷ tb_row pace.text tokens ∷ []))) (Ok rows)
          → AreRecords rows
      by true e = made_so (Spined Interpretation tokens ∷ []) rows e (are.0, tt)
      by false e =
          made_so (Spined Interpretation tokens ∷ tb_row pace.text tokens ∷ []) rows e
          (are.0, (told_record past tokens opens are.0, tt))
  timebase_records past (Spined Values tokens) rows opens are e =
      data_records pace.step (clock_after past) (timed_in (path_after past)) tokens rows are.0 e
