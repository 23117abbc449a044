-- The cell above each spine, by the places of cells, and where one comes to by going up.
use Rattle.std.specs.Prelude.{◌≡◌, ◌≢◌, ℕ, ◌+◌, ◌<◌, ◌≤◌, ◌⊎◌, ◌↔◌}
use Rattle.std.specs.Prelude.{List, [], ◌∷◌, length, None, slice_get}
use Rattle.hum_score.specs.declared.records.SpinedKind.TheVariants.{Interpretation}
use Rattle.hum_score.specs.Row.{Row, Comment, Spined}
use Rattle.hum_path.specs.Places.{IsExchange}
use Rattle.hum_score.specs.Spines.{Path, Unopened, Spines, width, moves_at}
use Rattle.hum_score.specs.Rules.{fault_of}
use Rattle.hum_score.specs.Score.{path_after}
use Rattle.hum_path.specs.Origins.{up, origin}
use Rattle.hum_places.specs.Heirs.{place_below, width_below}

-- the spine at place i stands below the cell at place j
pub record IsUnder (tokens : List (List ℕ)) (j i : ℕ) : Type 0 where
  pub cell : j < length tokens
  pub still : ¬ IsExchange tokens j
  pub from : place_below tokens j ≤ i
  pub to : i < place_below tokens j + width_below tokens j

-- or that cell has `*x`, and it stands below the other one that has it
pub record IsExchangedWith (tokens : List (List ℕ)) (j i : ℕ) : Type 0 where
  pub other : ℕ
  pub cells : IsExchange tokens j × IsExchange tokens other
  pub apart : j ≢ other
  pub at : i ≡ place_below tokens other

-- The cell at place j of an interpretation is above the spine at place i behind it. An added spine
-- has the cell with the `*+` above it; one that opens a score has its own.
abbrev pub IsAbove : Path → List (List ℕ) → ℕ → ℕ → Type 0
IsAbove Unopened tokens j i = j ≡ i
IsAbove (Spines names) tokens j i = IsUnder tokens j i ⊎ IsExchangedWith tokens j i

-- From the spine at place i after records, the newest first, one comes to the opening spine o by
-- going from cell to cell above.
abbrev pub Ascends : List Row → ℕ → ℕ → Type 0
Ascends [] i o = i ≡ o
Ascends (Comment text ∷ past) i o = Ascends past i o
Ascends (Spined Interpretation tokens ∷ past) i o =
    (j : ℕ) × IsAbove (path_after past) tokens j i × Ascends past j o
Ascends (Spined kind tokens ∷ past) i o = Ascends past i o

-- The place that a spine comes from is that of the cell above it.
abbrev pub CellsAreAbove : Path → List (List ℕ) → Type 0
CellsAreAbove path tokens =
    fault_of path (Spined Interpretation tokens) ≡ None
    → (j i : ℕ) → i < length (moves_at path tokens)
    → IsAbove path tokens j i ↔ (j ≡ up (slice_get (moves_at path tokens) i) i)

-- A spine's origin is the opening spine that one comes to, and no other.
abbrev pub OriginsAreAbove : List Row → Type 0
OriginsAreAbove past =
    (i o : ℕ) → i < width (path_after past) → Ascends past i o ↔ (o ≡ origin past i)
