-- What two commands on notes make of a score, the second behind the first, said as one.
use Rattle.std.specs.Prelude.{ℕ, List, [], ◌∷◌, map, Option, None, Some, Result, Ok, Err}
use Rattle.std.specs.Prelude.{if◌then◌else◌}
use Rattle.std.specs.List.{list_any}
use Rattle.hum_score.specs.declared.records.SpinedKind.TheVariants.{Local, Interpretation, Values}
use Rattle.hum_score.specs.Row.{Row, Comment, Spined}
use Rattle.hum_path.specs.Chains.{columns}
use Rattle.hum_stage.specs.declared.faults.Rule.{Rule}
use Rattle.hum_stage.specs.Outcome.{settled}
use Rattle.hum_stage.specs.Decided.{Decision, decisions}
use Rattle.hum_cells.specs.Rewriting.{Renamed, Followed, headed, is_kern, kern_columns, all_rewritten}

-- What becomes of kern columns: the name in the place of **kern, if it is another; the tandem
-- interpretations that go below it, a record for each; and what a data token becomes, by the cells
-- above it.
pub record Marking : Type 0 where
  pub name : Option (List ℕ)
  pub signs : List (List ℕ)
  pub becomes : List (List ℕ) → List ℕ → Result (List ℕ) Rule

abbrev pub under_name : Option (List ℕ) → List (List ℕ) → List (List ℕ)
under_name None tokens = tokens
under_name (Some name) tokens = map (headed (Renamed name)) tokens

-- a record for each sign, with it below **kern and * elsewhere
abbrev pub signed : List (List ℕ) → List (List ℕ) → List Row
signed [] tokens = []
signed (sign ∷ signs) tokens =
    Spined Interpretation (map (headed (Followed sign)) tokens) ∷ signed signs tokens

abbrev pub with_values : Result (List (List ℕ)) Rule → Result (List Row) Rule
with_values (Ok tokens) = Ok (Spined Values tokens ∷ [])
with_values (Err rule) = Err rule

-- What a record becomes, after the records above it, the newest first.
abbrev pub marked : Marking → Decision
marked marking past (Comment text) = Ok (Comment text ∷ [])
marked marking past (Spined Local tokens) = Ok (Spined Local tokens ∷ [])
marked marking past (Spined Interpretation tokens) =
    Ok (Spined Interpretation (under_name marking.name tokens)
    ∷ (if list_any is_kern tokens then signed marking.signs tokens else []))
marked marking past (Spined Values tokens) =
    with_values (all_rewritten marking.becomes (kern_columns past) (columns past) tokens)

-- What a score becomes.
abbrev pub all_marked : Marking → List Row → List Row
all_marked marking score = settled (decisions (marked marking) [] score)
