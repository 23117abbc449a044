-- That a score is closed is a fact, of which there are no two proofs.
use mathlib.Core.Sum.{⊎_set}
use Rattle.std.specs.Prelude.{List, [], ◌∷◌}
use Rattle.std.specs.Coded.{×_prop, Unit-prop}
use Rattle.hum_score.specs.Row.{Row}
use Rattle.hum_score.specs.Spines.{Path, Unopened, after}
use Rattle.hum_score.specs.InOrder.{Follow, IsClosed}

pub Follow-prop : (path : Path) (rows : List Row) → IsProp (Follow path rows)
Follow-prop path [] = Unit-prop
Follow-prop path (row ∷ rows) = ×_prop (hlevel ⊎_set) (Follow-prop (after path row) rows)

pub IsClosed-prop : (rows : List Row) → IsProp (IsClosed rows)
IsClosed-prop rows = ×_prop (Follow-prop Unopened rows) (hlevel ⊎_set)
