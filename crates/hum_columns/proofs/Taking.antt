-- One record more of a score.
use Rattle.std.proofs.Common.{◌≡◌, ◌∙◌, sym, ap, ℕ, true, false}
use Rattle.std.proofs.Common.{List, [], ◌∷◌, length, arith, Option, None, Some}
use Rattle.std.specs.Prelude.{Result, IfNone, OnOk, Err}
use Rattle.std.proofs.lemmas.Bool.Decides.{nat_tests}
use Rattle.hum_score.specs.declared.records.SpinedKind.TheVariants.{Interpretation}
use Rattle.hum_score.specs.Row.{Row, Comment, Spined, tokens_of, width_of}
use Rattle.hum_score.specs.declared.spines.Move.{Move}
use Rattle.hum_score.specs.Spines.{Path, Unopened, Spines, moves, after}
use Rattle.hum_score.specs.Rules.{fault_of, is_closed}
use Rattle.hum_score.specs.Score.{IsOpen, path_after}
use Rattle.hum_path.specs.Step.{ComeFrom}
use Rattle.hum_path.proofs.Plain.{sound_width}
use Rattle.hum_path.proofs.Widths.{text_width}
use Rattle.hum_stage.specs.declared.faults.Rule.{Rule}
use Rattle.hum_stage.specs.declared.faults.Refusal.{Refusal}
use Rattle.hum_stage.specs.Decided.{Decision, Steps}
use Rattle.hum_stage.specs.Limits.{in_room}
use Rattle.hum_stage.specs.Refusals.{IfTold}
use Rattle.hum_columns.specs.Chosen.{flags}
use Rattle.hum_columns.specs.Deciding.{ColumnCommand, at_path, by_columns}
use Rattle.hum_columns.specs.Following.{AsWide, moved, Memory, memory, passed, Answers, AnswersInRoom, Follows, is_interpretation}
use Rattle.hum_columns.proofs.Flags.{flags_width, flags_open, flags_move}

closed_path : (path : Path) (tokens : List (List ℕ)) → fault_of path (Spined Interpretation tokens) ≡ None
    → is_closed path ≡ true → path ≡ Unopened
closed_path = grind (arith, nat_tests)

abbrev pub names_in : Path → List (List ℕ)
names_in Unopened = []
names_in (Spines names) = names

spines_path : (path : Path) → is_closed path ≡ false → path ≡ Spines (names_in path)
spines_path = grind (arith, nat_tests)

pub interpretation_kind : (row : Row) → is_interpretation row ≡ true → row ≡ Spined Interpretation (tokens_of row)
interpretation_kind = grind (arith, nat_tests)

-- where there is room, an answer is one
pub from_room : (decided : Result (List Row) Rule) (room : ℕ) (rows : List Row) (refused : Option Rule)
    → AnswersInRoom decided room rows refused → Answers decided room rows refused
from_room = grind (arith, nat_tests)

-- a record that asks nothing of the spines
module _ {command : ColumnCommand} {m : Memory} {decide : Decision} where
  pub wide_still : (row : Row) (past : List Row) → Follows command m decide past → IsOpen (row ∷ past)
      → is_interpretation row ≡ false → AsWide m.each row
  wide_still = grind (arith, nat_tests, flags_width, text_width)

  -- nothing moves
  pub follows_still : (row : Row) (past : List Row) → Follows command m decide past → IsOpen (row ∷ past)
      → is_interpretation row ≡ false → Follows command m decide (row ∷ past)
  follows_still = grind (arith, nat_tests)

-- an interpretation
module _ (command : ColumnCommand) {m : Memory} {decide : Decision} where
  pub wide_later : (row : Row) (past : List Row) → Follows command m decide past → IsOpen (row ∷ past)
      → row ≡ Spined Interpretation (tokens_of row) → is_closed m.path ≡ false → length m.each ≡ width_of row
  wide_later = grind (arith, nat_tests, spines_path, flags_width, sound_width)

  -- the opening record
  pub steps_opening : (row : Row) (past : List Row) (room : ℕ) (out : List Row) (new : Memory) (refused : Option Rule)
      → ((tokens : List (List ℕ)) → length (command.choose tokens) ≡ length tokens)
      → Follows command m decide past → IsOpen (row ∷ past) → row ≡ Spined Interpretation (tokens_of row) → is_closed m.path ≡ true
      → Answers (command.opening (tokens_of row)) room out refused
      → IfNone refused (new ≡ memory (after m.path row) (command.choose (tokens_of row)))
      → Steps decide past row (Follows command new) room out refused
  steps_opening = grind (arith, nat_tests, closed_path, flags_open)

  -- what is decided of an interpretation after it
  decided_later : (tokens : List (List ℕ)) (past : List Row) → Follows command m decide past → is_closed m.path ≡ false
      → at_path (path_after past) (command.opening tokens) (command.later (flags command.choose past) tokens) ≡ command.later m.each tokens
  decided_later = grind (arith, nat_tests)

  -- it is refused
  pub refuses_later : (row : Row) (past : List Row) (room : ℕ) (out : List Row) (rule : Rule)
      → Follows command m decide past → row ≡ Spined Interpretation (tokens_of row) → is_closed m.path ≡ false
      → AnswersInRoom (command.later m.each (tokens_of row)) room out (Some rule)
      → in_room room (decide past row) ≡ Err rule
  refuses_later = grind (arith, nat_tests)

  -- it isn't
  pub steps_later : (row : Row) (past : List Row) (room : ℕ) (out : List Row) (new : Memory)
      → Follows command m decide past → IsOpen (row ∷ past) → row ≡ Spined Interpretation (tokens_of row) → is_closed m.path ≡ false
      → AnswersInRoom (command.later m.each (tokens_of row)) room out None → new ≡ passed m row → ComeFrom row (moves m.path row)
      → Steps decide past row (Follows command new) room out None
  steps_later (Comment text) past room out new s score is off answers went from = cc
  steps_later (Spined kind tokens) past room out new s score is off answers went from =
      let k : kind ≡ Interpretation = cc in
      let path = spines_path (path_after past) (ap is_closed (sym s.spines) ∙ off) in
      let sound : fault_of (path_after past) (Spined Interpretation tokens) ≡ None = rw k at score.1 in
      let found : List Move = moves m.path (Spined Interpretation tokens) in
      let told : found ≡ moves (path_after past) (Spined Interpretation tokens) =
      ap (λ (p : Path). moves p (Spined Interpretation tokens)) s.spines in
      let sources : ComeFrom (Spined Interpretation tokens) found = rw k at from in
      let marks_then : moved m.each found ≡ flags command.choose (Spined Interpretation tokens ∷ past) =
      ap (λ fs. moved fs found) s.marks
      ∙ sym (flags_move command.choose past tokens (names_in (path_after past)) found score.0 path sound told sources) in
      rw (k, s.decides)
      (on (from_room (command.later m.each tokens) room out None answers) (decided_later tokens past s off) (rw k at went) marks_then)
    where
      on : Answers (command.later m.each tokens) room out None
          → by_columns command past (Spined Interpretation tokens) ≡ command.later m.each tokens
          → new ≡ passed m (Spined Interpretation tokens)
          → moved m.each (moves m.path (Spined Interpretation tokens)) ≡ flags command.choose (Spined Interpretation tokens ∷ past)
          → Steps (by_columns command) past (Spined Interpretation tokens) (Follows command new) room out None
      on = grind (arith, nat_tests)

-- what holds where nothing is refused
pub unless_refused : {A : Type 0} (r : Result A Refusal) (P : Type 0) → OnOk r P → IfTold r (λ o. IfNone o P)
unless_refused = grind (arith, nat_tests)
