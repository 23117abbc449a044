-- One record more of a score.
use Rattle.std.proofs.Common.{◌≡◌, ◌∙◌, sym, ap, List, [], ◌∷◌, ◌++◌}
use Rattle.std.specs.Prelude.{None}
use Rattle.hum_score.specs.Row.{Row}
use Rattle.hum_score.specs.Spines.{Path, Unopened, after}
use Rattle.hum_score.specs.Rules.{fault_of}
use Rattle.hum_score.specs.InOrder.{through, IsScore}
use Rattle.hum_stage.proofs.Scores.{Follow-append, through-append}

pub one_more : (p : List Row) (r : Row) (path : Path) → IsScore p → path ≡ through Unopened p
    → fault_of path r ≡ None → IsScore (p ++ r ∷ [])
one_more p r path score at sound = Follow-append Unopened p (r ∷ []) score (rw at at sound, tt)

pub spines_after : (p : List Row) (r : Row) (path : Path) → path ≡ through Unopened p
    → after path r ≡ through Unopened (p ++ r ∷ [])
spines_after p r path at = ap (λ (x : Path). after x r) at ∙ sym (through-append Unopened p (r ∷ []))
