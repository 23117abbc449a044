-- Where the spines behind an interpretation come from, by the places of its cells.
use Rattle.std.specs.Prelude.{◌≡◌, ◌≢◌, ℕ, zero, suc, ◌+◌, ◌<◌, ◌≤◌}
use Rattle.std.specs.Prelude.{Bool, false, ◌&&◌, ◌||◌}
use Rattle.std.specs.Prelude.{if◌then◌else◌, List, length, Some, None, slice_get}
use Rattle.std.specs.Str.{bytes_eq}
use lib.Chars.{codes}
use Rattle.hum_score.specs.declared.records.SpinedKind.TheVariants.{Interpretation}
use Rattle.hum_score.specs.Row.{Row, Comment, Spined}
use Rattle.hum_score.specs.declared.spines.Move.{Move}
use Rattle.hum_score.specs.declared.spines.Move.TheVariants.{Same, Left, Right, Join as Joined, Added}
use Rattle.hum_path.specs.Places.{token_at, IsJoin, IsExchange}
use Rattle.hum_score.specs.Spines.{Path, Unopened, Spines, width, moves, moves_at}
use Rattle.hum_score.specs.Rules.{fault_of}

-- whether the token at place j is this text
abbrev pub reads : List (List ℕ) → List ℕ → ℕ → Bool
reads tokens text j = bytes_eq (token_at tokens j) text

-- a `*v` directly to the right of another one
abbrev pub is_joined_on : List (List ℕ) → ℕ → Bool
is_joined_on tokens zero = false
is_joined_on tokens (suc j) = reads tokens (codes "*v") j && reads tokens (codes "*v") (suc j)

-- how many spines there are below the cell at place j
abbrev pub width_below : List (List ℕ) → ℕ → ℕ
width_below tokens j =
    if reads tokens (codes "*^") j || reads tokens (codes "*+") j then 2
    else if reads tokens (codes "*-") j || is_joined_on tokens j then 0
    else 1

-- the place of the first of them: as many as there are below the cells to its left
abbrev pub place_below : List (List ℕ) → ℕ → ℕ
place_below tokens zero = 0
place_below tokens (suc j) = place_below tokens j + width_below tokens j

-- `*v` side by side from place j to place k, and no further
pub record IsRun (tokens : List (List ℕ)) (j k : ℕ) : Type 0 where
  pub order : j ≤ k
  pub within : (i : ℕ) → j ≤ i → i ≤ k → IsJoin tokens i
  pub left : (i : ℕ) → i + 1 ≡ j → ¬ IsJoin tokens i
  pub right : ¬ IsJoin tokens (k + 1)

-- a token that asks nothing of the spines
pub record IsQuiet (token : List ℕ) : Type 0 where
  pub split : token ≢ codes "*^"
  pub join : token ≢ codes "*v"
  pub exchange : token ≢ codes "*x"
  pub add : token ≢ codes "*+"
  pub end : token ≢ codes "*-"

-- What comes of each cell stands at its place, and there is nothing else.
pub record AreHeirs (tokens : List (List ℕ)) (found : List Move) : Type 0 where
  pub split : (j : ℕ) → token_at tokens j ≡ codes "*^"
      → (slice_get found (place_below tokens j) ≡ Some (Left j))
      × (slice_get found (place_below tokens j + 1) ≡ Some (Right j))
  pub join : (j k : ℕ) → IsRun tokens j k
      → slice_get found (place_below tokens j) ≡ Some (Joined j k)
  pub exchange : (j k : ℕ) → IsExchange tokens j → IsExchange tokens k → j ≢ k
      → slice_get found (place_below tokens j) ≡ Some (Same k)
  pub add : (j : ℕ) → token_at tokens j ≡ codes "*+"
      → (slice_get found (place_below tokens j) ≡ Some (Same j))
      × (slice_get found (place_below tokens j + 1) ≡ Some (Added j))
  pub quiet : (j : ℕ) → j < length tokens → IsQuiet (token_at tokens j)
      → slice_get found (place_below tokens j) ≡ Some (Same j)
  pub count : length found ≡ place_below tokens (length tokens)

-- So many spines, each from its own place.
pub record AreStill (n : ℕ) (found : List Move) : Type 0 where
  pub at : (j : ℕ) → j < n → slice_get found j ≡ Some (Same j)
  pub count : length found ≡ n

-- An interpretation that breaks no rule, under spines.
abbrev pub StepsByPlace : List (List ℕ) → List (List ℕ) → Type 0
StepsByPlace names tokens =
    fault_of (Spines names) (Spined Interpretation tokens) ≡ None
    → AreHeirs tokens (moves_at (Spines names) tokens)

-- Under the opening record and under all others no spine moves.
abbrev pub StaysByPlace : Path → Row → Type 0
StaysByPlace path (Comment text) = AreStill (width path) (moves path (Comment text))
StaysByPlace Unopened (Spined Interpretation tokens) =
    AreStill (length tokens) (moves Unopened (Spined Interpretation tokens))
StaysByPlace (Spines names) (Spined Interpretation tokens) = Unit {0}
StaysByPlace path (Spined kind tokens) = AreStill (width path) (moves path (Spined kind tokens))

-- Of two lists of moves that are by place both are one.
abbrev pub IsOneWay : List (List ℕ) → List (List ℕ) → Type 0
IsOneWay names tokens =
    fault_of (Spines names) (Spined Interpretation tokens) ≡ None
    → (found : List Move) → AreHeirs tokens found → found ≡ moves_at (Spines names) tokens
