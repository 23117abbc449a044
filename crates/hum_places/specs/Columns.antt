-- Columns that are chosen, by the places of their cells.
use Rattle.std.specs.Prelude.{◌≡◌, ℕ, zero, suc, ◌+◌, ◌<◌, ◌⊎◌, ◌↔◌, Bool, true, false, not, ◌&&◌}
use Rattle.std.specs.Prelude.{if◌then◌else◌, List, length, slice_get, slice_index_or, Some, None}
use Rattle.std.specs.Prelude.{Ok, Err}
use lib.Chars.{codes}
use Rattle.hum_score.specs.declared.records.SpinedKind.TheVariants.{Interpretation}
use Rattle.hum_score.specs.Row.{Spined}
use Rattle.hum_score.specs.Spines.{Spines}
use Rattle.hum_score.specs.Rules.{fault_of}
use Rattle.hum_path.specs.Places.{token_at, IsJoin, IsExchange, AreBeside}
use Rattle.hum_stage.specs.declared.faults.Rule.TheVariants.{X1, X3}
use Rattle.hum_columns.specs.Spread.{JoinedToken, piece, spread, filled}
use Rattle.hum_extract.specs.Extract.{cut}
use Rattle.hum_places.specs.Heirs.{is_joined_on, reads}

abbrev pub is_chosen : List Bool → ℕ → Bool
is_chosen flags j = slice_index_or flags j false

abbrev pub IsChosen : List Bool → ℕ → Type 0
IsChosen flags j = is_chosen flags j ≡ true

-- how many columns to the left of a place are chosen
abbrev pub chosen_left : List Bool → ℕ → ℕ
chosen_left flags zero = 0
chosen_left flags (suc j) =
    if is_chosen flags j then chosen_left flags j + 1 else chosen_left flags j

-- whether the token at place j begins a join: a `*v` with none directly to its left
abbrev pub begins : List (List ℕ) → ℕ → Bool
begins tokens j = reads tokens (codes "*v") j && not (is_joined_on tokens j)

-- a `*v` in a chosen column, beside one in a column that isn't chosen
pub record IsTorn (flags : List Bool) (tokens : List (List ℕ)) (j k : ℕ) : Type 0 where
  pub beside : AreBeside j k
  pub joins : IsJoin tokens j × IsJoin tokens k
  pub own : IsChosen flags j
  pub other : ¬ IsChosen flags k

-- a chosen column that changes places with one that isn't
pub record IsLone (flags : List Bool) (tokens : List (List ℕ)) (j k : ℕ) : Type 0 where
  pub exchanges : IsExchange tokens j × IsExchange tokens k
  pub own : IsChosen flags j
  pub other : ¬ IsChosen flags k

-- another chosen column, strictly between the two
pub record IsCrossed (flags : List Bool) (tokens : List (List ℕ)) (j k i : ℕ) : Type 0 where
  pub lone : IsLone flags tokens j k
  pub between : ((j < i) × (i < k)) ⊎ ((k < i) × (i < j))
  pub chosen : IsChosen flags i

abbrev pub SomeTorn : List Bool → List (List ℕ) → Type 0
SomeTorn flags tokens = (j : ℕ) × (k : ℕ) × IsTorn flags tokens j k

abbrev pub SomeLone : List Bool → List (List ℕ) → Type 0
SomeLone flags tokens = (j : ℕ) × (k : ℕ) × IsLone flags tokens j k

abbrev pub SomeCrossed : List Bool → List (List ℕ) → Type 0
SomeCrossed flags tokens = (j : ℕ) × (k : ℕ) × (i : ℕ) × IsCrossed flags tokens j k i

-- what extract writes at place j: `*` for a `*x` that changes places with a column that is dropped
abbrev pub Writes : List Bool → List (List ℕ) → ℕ → List ℕ → Type 0
Writes flags tokens j token =
    (((k : ℕ) × IsLone flags tokens j k) → token ≡ codes "*")
    × (((k : ℕ) → ¬ IsLone flags tokens j k) → token ≡ token_at tokens j)

-- The tokens of the chosen columns, each at its place among them.
pub record AreCut (flags : List Bool) (tokens : List (List ℕ)) (pieces : List JoinedToken) : Type 0 where
  pub at : (j : ℕ) → j < length tokens → IsChosen flags j
      → (token : List ℕ)
      × (slice_get pieces (chosen_left flags j) ≡ Some (piece (begins tokens j) token))
      × Writes flags tokens j token
  pub count : length pieces ≡ chosen_left flags (length tokens)

-- What extract makes of an interpretation after the opening record: X1 where a join is torn; else X3
-- where an exchange with a dropped column crosses a chosen one; else the chosen tokens, spread.
pub record CutByPlace (flags : List Bool) (tokens : List (List ℕ)) : Type 0 where
  pub torn : (cut flags tokens ≡ Err X1) ↔ SomeTorn flags tokens
  pub crossed : (cut flags tokens ≡ Err X3) ↔ ((¬ SomeTorn flags tokens) × SomeCrossed flags tokens)
  pub kept : ¬ SomeTorn flags tokens → ¬ SomeCrossed flags tokens
      → (pieces : List JoinedToken) × AreCut flags tokens pieces
      × (cut flags tokens ≡ Ok (filled Interpretation (spread pieces)))

abbrev pub CutsByPlace : List (List ℕ) → List Bool → List (List ℕ) → Type 0
CutsByPlace names flags tokens =
    fault_of (Spines names) (Spined Interpretation tokens) ≡ None
    → length flags ≡ length tokens → CutByPlace flags tokens
