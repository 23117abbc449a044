-- What null tokens become under a data record that is held.
use Rattle.std.proofs.lemmas.Bool.Decides.{nat_tests}
use Rattle.std.proofs.Common.{◌≡◌, ℕ, ◌≤◌, Bool, false, List, ◌∷◌, length, map}
use Rattle.std.proofs.Common.{Option, Some, arith}
use Rattle.std.specs.List.{AllByRecursion}
use Rattle.hum_score.specs.declared.records.Kind.TheVariants.{Values as AnyValues}
use Rattle.hum_score.specs.declared.records.SpinedKind.TheVariants.{Values}
use Rattle.hum_record.specs.Contents.{filled_from}
use Rattle.hum_record.specs.RecordDraft.{IsMade}
use Rattle.hum_score.specs.Row.{Row, Spined, kind_of, tokens_of, text_of}
use Rattle.hum_score.specs.Spelling.{IsToken, IsTextOf}
use Rattle.hum_ditto.specs.Ditto.{all_filled}
use Rattle.hum_ditto.specs.Held.{seen_alone}

all_under : (above tokens : List (List ℕ)) → AllByRecursion (IsToken Values) above
    → all_filled false (map seen_alone above) tokens ≡ filled_from above tokens
all_under (a ∷ above) (t ∷ tokens) h = grind (arith, nat_tests, all_under above tokens h.1)
all_under above tokens h = grind (arith, nat_tests)

-- what is made under a record that is held is what the command makes
pub made_under : (parentheses : Bool) (each : List (Option (List ℕ))) (above row made : Row) → each ≡ map seen_alone (tokens_of above)
    → parentheses ≡ false → kind_of above ≡ AnyValues → IsTextOf above (text_of above)
    → made ≡ Spined Values (filled_from (tokens_of above) (tokens_of row)) → length (text_of made) ≤ 1048576
    → IsMade Values (all_filled parentheses each (tokens_of row)) (Some made)
made_under = grind (arith, nat_tests, all_under)
