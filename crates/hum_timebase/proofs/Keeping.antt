-- Scores stay scores.
use Rattle.std.proofs.lemmas.Grind.{common_steps}
use Rattle.std.proofs.Common.{◌≡◌, ◌∙◌, refl, ap, ℕ, zero, suc, ◌+◌, Bool, true, false, List, []}
use Rattle.std.proofs.Common.{◌∷◌, ◌++◌, length, map, replicate, arith, Option, None}
use Rattle.std.specs.Prelude.{not, Result, Ok, if◌then◌else◌}
use Rattle.std.specs.List.{AllByRecursion}
use Rattle.std.proofs.lemmas.Bool.Decides.{nat_tests}
use Rattle.std.proofs.lemmas.List.{length-map, length-replicate}
use lib.Chars.{codes}
use Rattle.hum_score.specs.declared.records.SpinedKind.TheVariants.{Interpretation, Values}
use Rattle.hum_score.specs.Row.{Row, Spined}
use Rattle.hum_record.specs.Nulls.{null_row}
use Rattle.hum_score.specs.Sign.{sign_of, is_plain, all_plain}
use Rattle.hum_score.specs.Spines.{Path, Spines, after}
use Rattle.hum_score.specs.Rules.{fault_of}
use Rattle.hum_score.specs.Score.{IsOpen, path_after}
use Rattle.hum_path.proofs.Kept.{plain_behind}
use Rattle.hum_path.proofs.Plain.{any_exclusive}
use Rattle.hum_frac.specs.Ratio.{Ratio}
use Rattle.hum_stage.specs.declared.faults.Rule.{Rule}
use Rattle.hum_score.specs.InOrder.{through, Follow}
use Rattle.hum_stage.specs.Meaning.{KeepsScore}
use Rattle.hum_stage.specs.Decided.{decisions, limit}
use Rattle.hum_stage.proofs.Keeping.{at_once_keeps}
use Rattle.hum_timebase.specs.Notes.{timed_in}
use Rattle.hum_timebase.specs.Clock.{Clock, clock_after}
use Rattle.hum_choices.specs.Timebase.{Pace}
use Rattle.hum_timebase.specs.Timebase.{timebase, data_rows, timed_rows, around}
use Rattle.hum_timebase.specs.Timebase.{names_some, tb_token, tb_row}
use Rattle.hum_timebase.specs.Timebase.{interpretation_rows}

-- ---- data

-- data with so many tokens
record IsAlike (n : ℕ) (row : Row) : Type 0 where
  tokens : List (List ℕ)
  is : row ≡ Spined Values tokens
  size : length tokens ≡ n

alike_follow : (path : Path) (tokens : List (List ℕ)) (rows : List Row) → fault_of path (Spined Values tokens) ≡ None
    → AllByRecursion (IsAlike (length tokens)) rows → Follow path rows × (through path rows ≡ path)
alike_follow path tokens [] sound h = (tt, refl)
alike_follow path tokens (row ∷ rows) sound h =
    grind (arith, nat_tests, alike_follow path tokens rows sound h.1)

alike-append : (n : ℕ) (xs ys : List Row) → AllByRecursion (IsAlike n) xs → AllByRecursion (IsAlike n) ys → AllByRecursion (IsAlike n) (xs ++ ys)
alike-append = grind (arith, common_steps)

nulls_alike : (tokens : List (List ℕ)) (count : ℕ) → AllByRecursion (IsAlike (length tokens)) (replicate count (null_row (length tokens)))
nulls_alike tokens zero = tt
nulls_alike tokens (suc count) = (record { tokens = _; is = refl; size = length-replicate (length tokens) (codes ".") }, nulls_alike tokens count)

around_alike : (before after : ℕ) (stays : Bool) (tokens : List (List ℕ)) → AllByRecursion (IsAlike (length tokens)) (around before stays after tokens)
around_alike = grind (arith, nat_tests, alike-append, replicate, nulls_alike)

timed_alike : (step : Ratio) (end time : Option Ratio) (notes before ends : List (Option Ratio)) (tokens : List (List ℕ)) (rows : List Row)
    → timed_rows step end time notes before ends tokens ≡ Ok rows → AllByRecursion (IsAlike (length tokens)) rows
timed_alike = grind (arith, nat_tests, around_alike)

data_alike : (step : Ratio) (clock : Clock) (timed : List Bool) (tokens : List (List ℕ)) (rows : List Row)
    → data_rows step clock timed tokens ≡ Ok rows → AllByRecursion (IsAlike (length tokens)) rows
data_alike = grind (arith, nat_tests, timed_alike)

-- ---- the record that tells the step

tb_plain : (text : List ℕ) (token : List ℕ) → is_plain (sign_of (tb_token text token)) ≡ true
tb_plain = grind (arith, nat_tests)

tbs_plain : (text : List ℕ) (tokens : List (List ℕ)) → all_plain (map (tb_token text) tokens) ≡ true
tbs_plain text [] = refl
tbs_plain text (token ∷ tokens) = rw (tb_plain text token) (tbs_plain text tokens)

-- the record that tells the step breaks no rule, and changes nothing
tb_follows : (path : Path) (text : List ℕ) (tokens : List (List ℕ)) → names_some tokens ≡ true → fault_of path (Spined Interpretation tokens) ≡ None
    → (fault_of (after path (Spined Interpretation tokens)) (tb_row text tokens) ≡ None)
    × (after (after path (Spined Interpretation tokens)) (tb_row text tokens) ≡ after path (Spined Interpretation tokens))
tb_follows path text tokens some sound =
    let behind = plain_behind path tokens (map (tb_token text) tokens) (any_exclusive tokens ∙ some) sound (tbs_plain text tokens)
    (length-map tokens (tb_token text)) in
    (behind.0, ap Spines behind.1)

-- ---- all records

interpretation_step : (pace : Pace) (past : List Row) (tokens : List (List ℕ)) (rows : List Row) → IsOpen (Spined Interpretation tokens ∷ past)
    → interpretation_rows pace.text tokens ≡ Ok rows
    → Follow (path_after past) rows × (through (path_after past) rows ≡ path_after (Spined Interpretation tokens ∷ past))
interpretation_step pace past tokens rows sound e = go (names_some tokens) refl e
  where
    go : (a : Bool) → names_some tokens ≡ a
        → ◌≡◌ {A = Result (List Row) Rule} (if not a then Ok (Spined Interpretation tokens ∷ []) else Ok
        (Spined Interpretation tokens ∷ tb_row pace.text tokens ∷ [])) (Ok rows)
        → Follow (path_after past) rows × (through (path_after past) rows ≡ path_after (Spined Interpretation tokens ∷ past))
    go false none e = grind (arith, nat_tests)
    go true some e =
        let two : Spined Interpretation tokens ∷ tb_row pace.text tokens ∷ [] ≡ rows = cc in
        let tb = tb_follows (path_after past) pace.text tokens some sound.1 in
        rw (← two) ((sound.1, (tb.0, tt)), tb.1)

next_step : (pace : Pace) (past : List Row) (row : Row) (given : Path) (rows : List Row) → IsOpen (row ∷ past)
    → given ≡ path_after past → timebase pace past row ≡ Ok rows
    → Follow given rows × (through given rows ≡ path_after (row ∷ past))
next_step pace past (Spined Interpretation tokens) given rows sound leads e =
    rw leads (interpretation_step pace past tokens rows sound e)
next_step pace past (Spined Values tokens) given rows sound leads e =
    rw leads (alike_follow (path_after past) tokens rows sound.1 (data_alike pace.step (clock_after past) (timed_in (path_after past)) tokens rows e))
next_step pace past row given rows sound leads e = grind (arith, nat_tests)

pub timebase_keeps : (pace : Pace) → KeepsScore (λ p. limit 4294967295 (decisions (timebase pace) [] p))
timebase_keeps pace = at_once_keeps (timebase pace) (λ past given. given ≡ path_after past) (record {
  opening = refl;
  next = λ past row given rows sound leads e. next_step pace past row given rows sound leads e;
  closing = λ past given sound end leads. rw leads end;
})
