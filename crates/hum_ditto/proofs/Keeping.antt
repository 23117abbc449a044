-- Scores stay scores.
use Rattle.std.proofs.Common.{◌≡◌, refl, List, [], ◌∷◌, arith}
use Rattle.std.specs.Prelude.{Ok}
use Rattle.std.proofs.lemmas.Bool.Decides.{nat_tests}
use Rattle.hum_score.specs.declared.records.SpinedKind.TheVariants.{Values}
use Rattle.hum_score.specs.Row.{Row, Spined}
use Rattle.hum_score.specs.Spines.{Path}
use Rattle.hum_score.specs.Score.{IsOpen, path_after}
use Rattle.hum_path.proofs.Kept.{text_alike}
use Rattle.hum_score.specs.InOrder.{through, Follow}
use Rattle.hum_stage.specs.Meaning.{KeepsScore}
use Rattle.hum_stage.specs.Decided.{decisions, limit}
use Rattle.hum_stage.proofs.Keeping.{at_once_keeps}
use Rattle.hum_choices.specs.declared.ditto.DittoOptions.{DittoOptions}
use Rattle.hum_ditto.specs.Ditto.{ditto}
use Rattle.hum_ditto.proofs.Tokens.{filled_length}

next_step : (options : DittoOptions) (past : List Row) (row : Row) (given : Path) (rows : List Row) → IsOpen (row ∷ past)
    → given ≡ path_after past → ditto options past row ≡ Ok rows
    → Follow given rows × (through given rows ≡ path_after (row ∷ past))
next_step options past (Spined Values tokens) given rows sound leads e =
    grind (arith, nat_tests, filled_length, text_alike)
next_step options past row given rows sound leads e = grind (arith, nat_tests)

pub ditto_keeps : (options : DittoOptions) → KeepsScore (λ p. limit 4294967295 (decisions (ditto options) [] p))
ditto_keeps options = at_once_keeps (ditto options) (λ past given. given ≡ path_after past) (record {
  opening = refl;
  next = λ past row given rows sound leads e. next_step options past row given rows sound leads e;
  closing = λ past given sound end leads. rw leads end;
})
