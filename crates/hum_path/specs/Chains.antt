-- Columns: the cells above and below a place.
use Rattle.std.specs.Prelude.{ℕ, ◌==◌, nat_le, Bool, false, ◌&&◌, if◌then◌else◌}
use Rattle.std.specs.Prelude.{map, List, [], ◌∷◌, Option, None, Some, slice_index_or}
use Rattle.std.specs.List.{position}
use Rattle.hum_score.specs.declared.records.SpinedKind.TheVariants.{Interpretation}
use Rattle.hum_score.specs.Row.{Row, Comment, Spined}
use Rattle.hum_score.specs.declared.spines.Move.{Move}
use Rattle.hum_score.specs.declared.spines.Move.TheVariants.{Same, Left, Right, Join as Joined, Added}
use Rattle.hum_score.specs.Sign.{sign_of, is_exclusive}
use Rattle.hum_score.specs.Spines.{Path, moves_at, after, source}
use Rattle.hum_score.specs.Score.{path_after}

-- The cell that a spine comes from and those above it, given the chain of each spine before. An
-- added spine has none.
abbrev pub chain_of : List (List ℕ) → List (List (List ℕ)) → Move → List (List ℕ)
chain_of tokens above (Added j) = []
chain_of tokens above (Same j) = slice_index_or tokens j [] ∷ slice_index_or above j []
chain_of tokens above (Left j) = slice_index_or tokens j [] ∷ slice_index_or above j []
chain_of tokens above (Right j) = slice_index_or tokens j [] ∷ slice_index_or above j []
chain_of tokens above (Joined first last) =
    slice_index_or tokens first [] ∷ slice_index_or above first []

-- each chain with one cell more
abbrev pub longer : List (List ℕ) → List (List (List ℕ)) → List (List (List ℕ))
longer [] above = above
longer (token ∷ tokens) [] = []
longer (token ∷ tokens) (chain ∷ above) = (token ∷ chain) ∷ longer tokens above

-- After records, the newest first: for each spine the cells above its next cell, the nearest first.
abbrev pub columns : List Row → List (List (List ℕ))
columns [] = []
columns (Comment text ∷ past) = columns past
columns (Spined Interpretation tokens ∷ past) =
    map (chain_of tokens (columns past)) (moves_at (path_after past) tokens)
columns (Spined kind tokens ∷ past) = longer tokens (columns past)

-- The same for one spine.
abbrev pub history : List Row → ℕ → List (List ℕ)
history past j = slice_index_or (columns past) j []

-- whether a spine goes on from the one at place j
abbrev pub goes_on : ℕ → Move → Bool
goes_on j (Same i) = i == j
goes_on j (Left i) = i == j
goes_on j (Right i) = false
goes_on j (Joined first last) = nat_le first j && nat_le j last
goes_on j (Added i) = false

abbrev pub below_at : (ℕ → List (List ℕ)) → Option ℕ → List (List ℕ)
below_at below None = []
below_at below (Some j) = below j

-- The next cell of the spine at place j and those below it, the nearest first, in records in their
-- order.
abbrev pub future : Path → List Row → ℕ → List (List ℕ)
future path [] j = []
future path (Comment text ∷ rows) j = future path rows j
future path (Spined Interpretation tokens ∷ rows) j =
    slice_index_or tokens j []
    ∷ below_at (future (after path (Spined Interpretation tokens)) rows)
    (position (goes_on j) (moves_at path tokens))
future path (Spined kind tokens ∷ rows) j = slice_index_or tokens j [] ∷ future path rows j

-- the part of a chain that isn't beyond its nearest exclusive interpretation
abbrev pub reach : List (List ℕ) → List (List ℕ)
reach [] = []
reach (token ∷ tokens) = token ∷ (if is_exclusive (sign_of token) then [] else reach tokens)

-- The opening spine of a spine that comes by a move, given those of the spines before. At the
-- opening it is its own.
abbrev pub origin_of : List ℕ → Move → ℕ
origin_of above from = slice_index_or above (source from) (source from)

-- After records, the newest first: for each spine the opening spine that it comes from, by place.
abbrev pub origins : List Row → List ℕ
origins [] = []
origins (Comment text ∷ past) = origins past
origins (Spined Interpretation tokens ∷ past) =
    map (origin_of (origins past)) (moves_at (path_after past) tokens)
origins (Spined kind tokens ∷ past) = origins past
