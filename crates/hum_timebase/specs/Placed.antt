-- The notes of a record alone, each with its column.
use Rattle.std.specs.Prelude.{◌≡◌, ℕ, ◌+◌, List, [], ◌∷◌, Option, None, Some}
use Rattle.hum_frac.specs.Ratio.{Ratio}
use Rattle.hum_timebase.specs.declared.notes.NoteAt.{NoteAt}

-- those of some columns, from one on
abbrev pub placed : ℕ → List (Option Ratio) → List NoteAt
placed column [] = []
placed column (None ∷ notes) = placed (column + 1) notes
placed column (Some lasting ∷ notes) =
    record { column = column; lasting = lasting } ∷ placed (column + 1) notes

-- Such notes stand for columns that have them and no others. What holds of all that they may stand
-- for.
abbrev pub OfColumns : List NoteAt → (List (Option Ratio) → Type 0) → Type 0
OfColumns notes Holds = (columns : List (Option Ratio)) → notes ≡ placed 0 columns → Holds columns
