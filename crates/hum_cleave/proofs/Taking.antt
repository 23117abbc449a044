-- One record more that asks nothing of the spines.
use Rattle.std.proofs.lemmas.Bool.Decides.{nat_tests}
use Rattle.std.proofs.Common.{◌≡◌, ◌∙◌, ap, ℕ, false, List, ◌∷◌, Option, None, Some, arith}
use Rattle.hum_score.specs.Row.{Row}
use Rattle.hum_score.specs.Score.{IsOpen}
use Rattle.hum_stage.specs.declared.faults.Rule.{Rule}
use Rattle.hum_stage.specs.Decided.{Decision, Steps}
use Rattle.hum_stage.specs.Limits.{in_room}
use Rattle.hum_columns.specs.Following.{Answers, Memory, Follows, is_interpretation}
use Rattle.hum_choices.specs.Cleave.{Options}
use Rattle.hum_cleave.specs.Cleave.{text_told, column_command}

module _ (options : Options) {m : Memory} {decide : Decision} where
  decided_still : (row : Row) (past : List Row) → Follows (column_command options) m decide past → is_interpretation row ≡ false
      → decide past row ≡ text_told options.separator m.each row
  decided_still = grind (arith, nat_tests)

  pub steps_still : (row : Row) (past : List Row) (room : ℕ) (out : List Row) (refused : Option Rule)
      → Follows (column_command options) m decide past → IsOpen (row ∷ past) → is_interpretation row ≡ false
      → Answers (text_told options.separator m.each row) room out refused
      → Steps decide past row (Follows (column_command options) m) room out refused
  steps_still row past room out None s score still answers = grind (arith, nat_tests)
  steps_still row past room out (Some rule) s score still answers = ap (in_room room) (decided_still row past s still) ∙ answers
