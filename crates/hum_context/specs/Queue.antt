-- What is kept of the records that wait.
use Rattle.std.specs.Prelude.{◌≡◌, ◌<◌, ◌≤◌, ℕ, Bool, false, List, []}
use Rattle.std.specs.Prelude.{◌∷◌, filter, length, nat_lt}
use Rattle.std.specs.Prelude.{if◌then◌else◌, slice_index_or, Option, Some, None}
use Rattle.std.specs.List.{list_any, position}
use Rattle.hum_score.specs.declared.records.Kind.TheVariants.{Values as AnyValues, Interpretation as AnyInterpretation}
use Rattle.hum_score.specs.declared.records.SpinedKind.TheVariants.{Interpretation}
use Rattle.hum_score.specs.Row.{Row, Spined, kind_of, text_of, token_at, width_of}
use Rattle.hum_score.specs.Spines.{Path, after, moves}
use Rattle.hum_path.specs.Chains.{goes_on}
use Rattle.hum_context.specs.declared.below.Below.{Below}
use Rattle.hum_context.specs.declared.below.Below.TheVariants.{Same, Listed}
use Rattle.hum_context.specs.declared.heard.Heard.{Heard}
use Rattle.hum_context.specs.declared.heard.Heard.TheVariants.{Passed, Taken}
use Rattle.hum_context.specs.declared.queued.Queued.{Queued}
use Rattle.hum_context.specs.Context.{Choice, is_collectable, is_last}
use Rattle.hum_context.specs.Columns.{column_below, under}
use Rattle.hum_context.specs.Heard.{heard_under}
use Rattle.hum_context.specs.Leads.{Linked}
use Rattle.hum_record.specs.declared.TheConstants.{MOST_BYTES}

-- the place at which the spine at place c goes on
abbrev pub place_in : Below → ℕ → Option ℕ
place_in (Same width) c = if nat_lt c width then Some c else None
place_in (Listed places) c = slice_index_or places.items c None

-- the column of the cell below a record's cell, within the reach
abbrev pub column_in : Row → Below → ℕ → Option ℕ
column_in (Spined Interpretation tokens) below c =
    if is_last (slice_index_or tokens c []) then None else place_in below c
column_in _ below c = Some c

-- Under an interpretation the spines go on at these places.
abbrev pub LeadsBelow : Path → Row → Below → Type 0
LeadsBelow path row below = kind_of row ≡ AnyInterpretation → (c : ℕ)
    → place_in below c ≡ position (goes_on c) (moves path row)

-- whether a column's future is ended at a record's token
abbrev pub is_last_in : Row → ℕ → Bool
is_last_in (Spined Interpretation tokens) c = is_last (slice_index_or tokens c [])
is_last_in _ c = false

-- the token that was heard, if it is collected
abbrev pub heard_token : Heard → List ℕ → List (List ℕ)
heard_token Passed token = []
heard_token (Taken begins ends) token = token ∷ []

-- the first record that waits is data
abbrev pub FirstIsData : List Queued → Type 0
FirstIsData [] = ⊥
FirstIsData (kept ∷ held) = kind_of kept.row ≡ AnyValues

-- and has a token at place j
abbrev pub HasToken : List Queued → ℕ → Type 0
HasToken [] j = ⊥
HasToken (kept ∷ held) j = FirstIsData (kept ∷ held) × (j < width_of kept.row)

-- What is kept of a record is what it is, what is heard of its tokens, where the spines under it go
-- and which of them end there.
pub record Known (o : Choice) (path : Path) (row : Row) (kept : Queued) : Type 0 where
  pub is : kept.row ≡ row
  pub short : length (text_of row) ≤ MOST_BYTES
  pub heard : (c : ℕ) → slice_index_or kept.heard.items c Passed ≡ heard_under o row c
  pub collected : (c : ℕ) → filter (is_collectable o) (under row (Some c))
      ≡ heard_token (heard_under o row c) (token_at row c)
  pub below : (c : ℕ) → column_in kept.row kept.below c ≡ column_below path row c
  pub last : (c : ℕ) → is_last_in kept.row c ≡ list_any is_last (under row (Some c))

-- nothing of a record is collected, and its spines stay where they are
pub record IsStill (kept : Queued) : Type 0 where
  pub quiet : kept.heard.items ≡ []
  pub stays : (c : ℕ) → column_in kept.row kept.below c ≡ Some c

-- the same of each of those that wait, the spines before the first being known; and the ways from its
-- cells that are known lead there
abbrev pub Knows : Choice → Path → List Queued → List Row → Type 0
Knows o path [] [] = Unit {0}
Knows o path [] (row ∷ rows) = ⊥
Knows o path (kept ∷ held) [] = ⊥
Knows o path (kept ∷ held) (row ∷ rows) =
    Known o path row kept × Knows o (after path row) held rows × Linked o path (row ∷ rows) kept.links
