-- The columns that a cell's spine goes through.
use Rattle.std.specs.Prelude.{ℕ, List, [], ◌∷◌, slice_index_or, if◌then◌else◌, Option, Some, None}
use Rattle.std.specs.Option.{option_and_then}
use Rattle.std.specs.List.{position}
use Rattle.hum_score.specs.declared.records.SpinedKind.{SpinedKind}
use Rattle.hum_score.specs.declared.records.SpinedKind.TheVariants.{Interpretation}
use Rattle.hum_score.specs.Row.{Row, Comment, Spined}
use Rattle.hum_score.specs.Spines.{Path, moves_at, after}
use Rattle.hum_path.specs.Chains.{goes_on}
use Rattle.hum_context.specs.Context.{is_last}

-- the place of a spine after a record
abbrev pub place_after : Path → SpinedKind → List (List ℕ) → ℕ → Option ℕ
place_after path Interpretation tokens c = position (goes_on c) (moves_at path tokens)
place_after path kind tokens c = Some c

-- the column of the cell below, within the reach
abbrev pub column_below : Path → Row → ℕ → Option ℕ
column_below path (Comment text) c = Some c
column_below path (Spined kind tokens) c =
    if is_last (slice_index_or tokens c []) then None else place_after path kind tokens c

-- the column of the cell that comes after some records
abbrev pub column_after : Path → List Row → ℕ → Option ℕ
column_after path [] c = Some c
column_after path (row ∷ rows) c =
    option_and_then (column_after (after path row) rows) (column_below path row c)

-- the token of a record in a column, if there is one
abbrev pub under : Row → Option ℕ → List (List ℕ)
under row None = []
under (Comment text) (Some c) = []
under (Spined kind tokens) (Some c) = slice_index_or tokens c [] ∷ []
