-- Records that are left with their chosen tokens.
use Rattle.std.specs.Prelude.{Bool, List, [], ◌∷◌}
use Rattle.hum_score.specs.Row.{Row, Comment, Spined, chosen}
use Rattle.hum_columns.specs.Spread.{filled}

-- what is left of a record with the chosen tokens alone, if there are any
abbrev pub kept : List Bool → Row → List Row
kept flags (Comment text) = Comment text ∷ []
kept flags (Spined kind tokens) = filled kind (chosen flags tokens ∷ [])
