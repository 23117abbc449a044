-- Columns that are cleaved, by the places of their cells.
use Rattle.std.specs.Prelude.{◌≡◌, ◌≢◌, ℕ, zero, suc, ◌+◌, ◌<◌, ◌⊎◌, ◌↔◌, Bool, true, false, not, ◌||◌, ◌==◌}
use Rattle.std.specs.Prelude.{if◌then◌else◌, List, [], length, map, slice_get, slice_index_or, Some, Ok, Err}
use Rattle.std.specs.List.{Contains}
use lib.Chars.{codes}
use Rattle.hum_score.specs.declared.records.SpinedKind.TheVariants.{Interpretation}
use Rattle.hum_score.specs.Row.{chosen}
use Rattle.hum_score.specs.Sign.{sign_of, is_exclusive}
use Rattle.hum_record.specs.Contents.{is_null, is_barline}
use Rattle.hum_path.specs.Places.{token_at, IsExchange}
use Rattle.hum_stage.specs.declared.faults.Rule.TheVariants.{C1, C2}
use Rattle.hum_columns.specs.Spread.{JoinedToken, piece, spread, filled}
use Rattle.hum_cleave.specs.Columns.{together}
use Rattle.hum_cleave.specs.Tokens.{comment_of, interpretation_of, taken}
use Rattle.hum_cleave.specs.Cleave.{merged}
use Rattle.hum_places.specs.Columns.{is_chosen, IsChosen, chosen_left, begins, SomeTorn}

-- A place is kept: it isn't that of a cleaved column, or that of the leftmost of them.
abbrev pub is_kept : List Bool → ℕ → Bool
is_kept flags j = not (is_chosen flags j) || chosen_left flags j == 0

-- how many kept places there are to the left of one
abbrev pub kept_left : List Bool → ℕ → ℕ
kept_left flags zero = 0
kept_left flags (suc j) = if is_kept flags j then kept_left flags j + 1 else kept_left flags j

-- Where tokens of a record are cleaved: the one that they become is at the place of the leftmost, and
-- the others stay beside it.
pub record AreTogether (one : List ℕ) (flags : List Bool) (tokens made : List (List ℕ)) : Type 0 where
  pub own : (j : ℕ) → j < length tokens → IsChosen flags j → chosen_left flags j ≡ 0
      → slice_get made (kept_left flags j) ≡ Some one
  pub others : (j : ℕ) → j < length tokens → ¬ IsChosen flags j
      → slice_get made (kept_left flags j) ≡ Some (token_at tokens j)
  pub count : length made ≡ kept_left flags (length tokens)

abbrev pub TogetherByPlace : List ℕ → List Bool → List (List ℕ) → Type 0
TogetherByPlace one flags tokens =
    length flags ≡ length tokens → AreTogether one flags tokens (together one flags tokens)

-- The same of an interpretation, whose one token begins no join.
pub record ArePieces (one : List ℕ) (flags : List Bool) (tokens : List (List ℕ))
    (pieces : List JoinedToken) : Type 0 where
  pub own : (j : ℕ) → j < length tokens → IsChosen flags j → chosen_left flags j ≡ 0
      → slice_get pieces (kept_left flags j) ≡ Some (piece false one)
  pub others : (j : ℕ) → j < length tokens → ¬ IsChosen flags j
      → slice_get pieces (kept_left flags j) ≡ Some (piece (begins tokens j) (token_at tokens j))
  pub count : length pieces ≡ kept_left flags (length tokens)

-- a cleaved column has an exclusive interpretation
pub record IsNamed (flags : List Bool) (tokens : List (List ℕ)) (j : ℕ) : Type 0 where
  pub chosen : IsChosen flags j
  pub exclusive : is_exclusive (sign_of (token_at tokens j)) ≡ true

abbrev pub SomeNamed : List Bool → List (List ℕ) → Type 0
SomeNamed flags tokens = (j : ℕ) × IsNamed flags tokens j

-- What can't be written in one column: a cleaved one has `*x` or `*+`, one of them ends and another
-- doesn't, or a join has a cleaved and another column.
pub data IsEntangled (flags : List Bool) (tokens : List (List ℕ)) : Type 0 where
  exchanged : (j : ℕ) → IsChosen flags j → IsExchange tokens j → IsEntangled flags tokens
  added : (j : ℕ) → IsChosen flags j → token_at tokens j ≡ codes "*+" → IsEntangled flags tokens
  apart : (j k : ℕ) → IsChosen flags j → token_at tokens j ≡ codes "*-"
      → IsChosen flags k → token_at tokens k ≢ codes "*-" → IsEntangled flags tokens
  torn : SomeTorn flags tokens → IsEntangled flags tokens

-- What cleave makes of an interpretation after the opening record: C2 where a cleaved column has an
-- exclusive interpretation; else C1 where columns are entangled; else one token in their place.
pub record MergedByPlace (flags : List Bool) (tokens : List (List ℕ)) : Type 0 where
  pub named : (merged flags tokens ≡ Err C2) ↔ SomeNamed flags tokens
  pub entangled : (merged flags tokens ≡ Err C1)
      ↔ ((¬ SomeNamed flags tokens) × IsEntangled flags tokens)
  pub kept : ¬ SomeNamed flags tokens → ¬ IsEntangled flags tokens
      → (pieces : List JoinedToken)
      × ArePieces (interpretation_of (chosen flags tokens)) flags tokens pieces
      × (merged flags tokens ≡ Ok (filled Interpretation (spread pieces)))

abbrev pub MergesByPlace : List Bool → List (List ℕ) → Type 0
MergesByPlace flags tokens = length flags ≡ length tokens → MergedByPlace flags tokens

-- the leftmost token, among those of cleaved columns, that isn't left out
pub record IsLeftmost (LeftOut : List ℕ → Type 0) (tokens : List (List ℕ)) (j : ℕ) : Type 0 where
  pub within : j < length tokens
  pub taken : ¬ LeftOut (token_at tokens j)
  pub first : (i : ℕ) → i < j → LeftOut (token_at tokens i)

-- that token is found, or there is none and it is another one
pub record IsFound (LeftOut : List ℕ → Type 0) (other : List ℕ) (tokens : List (List ℕ))
    (found : List ℕ) : Type 0 where
  pub one : (j : ℕ) → IsLeftmost LeftOut tokens j → found ≡ token_at tokens j
  pub none : ((j : ℕ) → j < length tokens → LeftOut (token_at tokens j)) → found ≡ other

-- an interpretation that says nothing of the one column
abbrev pub IsSilent : List ℕ → Type 0
IsSilent token = (token ≡ codes "*") ⊎ ((token ≡ codes "*^") ⊎ (token ≡ codes "*v"))

-- A local comment becomes the leftmost that isn't `!`, and an interpretation the leftmost that isn't
-- silent.
pub record TokensByPlace (tokens : List (List ℕ)) : Type 0 where
  pub comment : IsFound (λ token. token ≡ codes "!") (codes "!") tokens (comment_of tokens)
  pub interpretation : IsFound IsSilent (codes "*") tokens (interpretation_of tokens)

-- A data token is taken where it isn't null, and no barline that stands to its left too.
pub record IsTaken (tokens : List (List ℕ)) (j : ℕ) : Type 0 where
  pub within : j < length tokens
  pub filled : is_null (token_at tokens j) ≡ false
  pub once : is_barline (token_at tokens j) ≡ true
      → (i : ℕ) → i < j → token_at tokens i ≢ token_at tokens j

-- Those that are taken, each once and in their order.
pub record AreTaken (tokens made : List (List ℕ)) : Type 0 where
  pub places : List ℕ
  pub ascending : (i : ℕ) → i + 1 < length places
      → slice_index_or places i 0 < slice_index_or places (i + 1) 0
  pub all : (j : ℕ) → Contains places j ↔ IsTaken tokens j
  pub whole : made ≡ map (token_at tokens) places

abbrev pub TakenByPlace : List (List ℕ) → Type 0
TakenByPlace tokens = AreTaken tokens (taken [] tokens)
