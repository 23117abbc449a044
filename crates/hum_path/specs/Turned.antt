-- Cells above and cells below: each is the other, turned round.
use Rattle.std.specs.Prelude.{◌≡◌, ℕ, ◌<◌, ◌≤◌, ◌⊎◌, List, [], ◌∷◌, ◌++◌, reverse}
use Rattle.std.specs.Prelude.{Option, Some, None, slice_get}
use Rattle.std.specs.List.{position}
use Rattle.hum_score.specs.declared.records.SpinedKind.TheVariants.{Interpretation}
use Rattle.hum_score.specs.Row.{Row, Comment, Spined}
use Rattle.hum_score.specs.declared.spines.Move.{Move}
use Rattle.hum_score.specs.declared.spines.Move.TheVariants.{Same, Left, Right, Join as Joined, Added}
use Rattle.hum_score.specs.Spines.{Path, moves_at, after, width}
use Rattle.hum_score.specs.Rules.{fault_of}
use Rattle.hum_score.specs.Score.{IsOpen, path_after, passed}
use Rattle.hum_path.specs.Chains.{goes_on, history, future}

-- where the spine that comes by a move has its cell above; an added spine has none
abbrev pub above_of : Option Move → Option ℕ
above_of None = None
above_of (Some (Added j)) = None
above_of (Some (Same j)) = Some j
above_of (Some (Left j)) = Some j
above_of (Some (Right j)) = Some j
above_of (Some (Joined first last)) = Some first

-- Of an interpretation, by its moves: the place of the cell above that of the spine at place i
-- behind it, and the place behind it of the cell below that at place j.
abbrev pub place_above : List Move → ℕ → Option ℕ
place_above found i = above_of (slice_get found i)

abbrev pub place_below : List Move → ℕ → Option ℕ
place_below found j = position (goes_on j) found

-- a spine that is joined, and isn't the leftmost
pub record IsJoinedFromRight (found : List Move) (j i : ℕ) : Type 0 where
  pub first : ℕ
  pub last : ℕ
  pub move : slice_get found i ≡ Some (Joined first last)
  pub right : first < j
  pub within : j ≤ last

-- The cell below the one above a cell is that cell, but for the right one of a split; the cell above
-- the one below a cell is that cell, but where it is joined and isn't the leftmost.
pub record AreTurned (found : List Move) : Type 0 where
  pub up : (i j : ℕ) → place_above found i ≡ Some j
      → (place_below found j ≡ Some i) ⊎ (slice_get found i ≡ Some (Right j))
  pub down : (j i : ℕ) → place_below found j ≡ Some i
      → (place_above found i ≡ Some j) ⊎ IsJoinedFromRight found j i

abbrev pub StepsTurn : Path → List (List ℕ) → Type 0
StepsTurn path tokens =
    fault_of path (Spined Interpretation tokens) ≡ None → AreTurned (moves_at path tokens)

-- From place j the cells below, through records in their order, lead to place i behind them, and the
-- cells above lead back.
abbrev pub Leads : Path → List Row → ℕ → ℕ → Type 0
Leads path [] j i = j ≡ i
Leads path (Comment text ∷ rows) j i = Leads path rows j i
Leads path (Spined Interpretation tokens ∷ rows) j i =
    (k : ℕ)
    × (place_below (moves_at path tokens) j ≡ Some k)
    × (place_above (moves_at path tokens) k ≡ Some j)
    × Leads (after path (Spined Interpretation tokens)) rows k i
Leads path (Spined kind tokens ∷ rows) j i = Leads path rows j i

-- Along such places the cells below, turned round, are the cells above.
abbrev pub ColumnsTurn : List Row → List Row → Type 0
ColumnsTurn past rows =
    (j i : ℕ) → IsOpen (passed past rows) → j < width (path_after past)
    → Leads (path_after past) rows j i
    → history (passed past rows) i ≡ reverse (future (path_after past) rows j) ++ history past j
