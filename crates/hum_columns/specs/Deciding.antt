-- Commands on chosen columns.
use Rattle.std.specs.Prelude.{ℕ, Bool, List, [], ◌∷◌, Result, Ok}
use Rattle.hum_score.specs.declared.records.SpinedKind.{SpinedKind}
use Rattle.hum_score.specs.declared.records.SpinedKind.TheVariants.{Interpretation}
use Rattle.hum_score.specs.Row.{Row, Comment, Spined}
use Rattle.hum_score.specs.Spines.{Path, Unopened, Spines}
use Rattle.hum_score.specs.Score.{path_after}
use Rattle.hum_stage.specs.declared.faults.Rule.{Rule}
use Rattle.hum_stage.specs.Decided.{Decision}
use Rattle.hum_columns.specs.Chosen.{flags}

-- What such a command says: which opening spines are chosen; what the opening record becomes; and
-- what a later interpretation and another record of tokens become, by which columns are chosen.
pub record ColumnCommand : Type 0 where
  pub choose : List (List ℕ) → List Bool
  pub opening : List (List ℕ) → Result (List Row) Rule
  pub later : List Bool → List (List ℕ) → Result (List Row) Rule
  pub other : List Bool → SpinedKind → List (List ℕ) → Result (List Row) Rule

-- an interpretation is the opening record or a later one
abbrev pub at_path :
    Path → Result (List Row) Rule → Result (List Row) Rule → Result (List Row) Rule
at_path Unopened opening later = opening
at_path (Spines names) opening later = later

-- What a record becomes, after those above it, the newest first.
abbrev pub by_columns : ColumnCommand → Decision
by_columns command past (Comment text) = Ok (Comment text ∷ [])
by_columns command past (Spined Interpretation tokens) =
    at_path (path_after past) (command.opening tokens)
    (command.later (flags command.choose past) tokens)
by_columns command past (Spined kind tokens) =
    command.other (flags command.choose past) kind tokens
