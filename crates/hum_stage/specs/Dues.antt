-- Records that are due.
use Rattle.std.specs.Prelude.{◌≡◌, List, [], ◌∷◌, Option, None, Some}
use Rattle.hum_score.specs.Row.{Row}

-- the next of those that were due was taken, if there was one, and these are left
abbrev pub IsNext : List Row → List Row → Option Row → Type 0
IsNext old new None = (old ≡ []) × (new ≡ [])
IsNext old new (Some row) = old ≡ row ∷ new

-- the one record that was due was taken, or nothing was, and all that were due still are
abbrev pub IsLone : List Row → List Row → Option Row → Type 0
IsLone old new None = new ≡ old
IsLone old new (Some row) = (old ≡ row ∷ []) × (new ≡ [])
