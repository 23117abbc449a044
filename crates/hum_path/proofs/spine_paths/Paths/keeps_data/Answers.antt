use Rattle.std.proofs.lemmas.Grind.{common_steps}
use Rattle.std.proofs.lemmas.Bool.Decides.{nat_tests}
use Rattle.std.proofs.Common.{ap₂, ◌≡◌, length, arith, Bool, false, None, List, ℕ}
use Rattle.std.specs.declared.vec.Vec.{Vec}
use Rattle.std.specs.declared.alloc.Global.{Global}
use Rattle.std.specs.List.{find}
use Rattle.std.proofs.lemmas.List.{length-map}
use Rattle.hum_score.specs.declared.records.Kind.TheVariants.{Global as AnyGlobal, Values as AnyValues}
use Rattle.hum_score.specs.Row.{Row, kind_of, tokens_of, text_of, width_of}
use Rattle.hum_score.specs.Spelling.{IsTextOf}
use Rattle.hum_score.specs.Sign.{steers}
use Rattle.hum_score.specs.Spines.{Path}
use Rattle.hum_path.specs.Tracked.{path_in}
use Rattle.hum_score.specs.Texts.{texts}
use Rattle.hum_path.specs.Step.{IsTidy}
use Rattle.hum_score.specs.Rules.{breaks_as_text, in_order}
use Rattle.hum_path.proofs.Staying.{quiet_stays, width_in, names_in}
use Rattle.hum_path.proofs.spine_paths.Paths.keeps_data.Goals as goal

data_asks_nothing : (row : Row) → kind_of row ≡ AnyValues → steers row ≡ false
data_asks_nothing = grind (arith, nat_tests)

not_global : (row : Row) → kind_of row ≡ AnyValues → kind_of row ≡ AnyGlobal → ⊥
not_global row h is = cc

no_fault : (opened waits : Bool) (names : List (Vec ℕ Global)) (path : Path) (row : Row) → IsTidy opened waits names → kind_of row ≡ AnyValues
    → IsTextOf row (text_of row) → path_in opened (texts names) ≡ path → width_of row ≡ length names → waits ≡ false
    → find (breaks_as_text path (tokens_of row)) in_order ≡ None
no_fault = grind (arith, common_steps)

pub returns-clause-keeps : goal.returns-clause-keeps
returns-clause-keeps =
    grind (arith, nat_tests, width_in, quiet_stays, data_asks_nothing, not_global, no_fault)

pub returns-clause-exact : goal.returns-clause-exact
returns-clause-exact = grind (arith, nat_tests, names_in, length-map, ap₂)
