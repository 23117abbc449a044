-- What is kept of the spines: where they stand, and where each comes from.
use Rattle.std.specs.Prelude.{ℕ, Bool, true, false, List, Option, None, Some}
use Rattle.std.specs.declared.vec.Vec.{Vec}
use Rattle.std.specs.declared.alloc.Global.{Global}
use Rattle.hum_score.specs.declared.spines.Move.{Move}
use Rattle.hum_score.specs.Spines.{Path, Unopened, Spines, same_upto}

-- the spines, and whether memory ran out
pub record Tracked : Type 0 where
  pub path : Path
  pub spent : Bool

abbrev pub path_in : Bool → List (List ℕ) → Path
path_in false names = Unopened
path_in true names = Spines names

-- moves that were listed, or so many spines that stay where they are
abbrev pub moves_in : Option (Vec Move Global) → ℕ → List Move
moves_in None width = same_upto 0 width
moves_in (Some listed) width = listed.items
