-- What is remembered of columns: one memory for each spine.
use Rattle.std.specs.Prelude.{◌≡◌, ℕ, Bool, List, [], ◌∷◌, map, slice_index_or}
use Rattle.hum_score.specs.Row.{Row}
use Rattle.hum_score.specs.declared.spines.Move.{Move}
use Rattle.hum_score.specs.declared.spines.Move.TheVariants.{Same, Left, Right, Join as Joined, Added}
use Rattle.hum_score.specs.Spines.{moves}
use Rattle.hum_score.specs.Score.{path_after}
use Rattle.hum_path.specs.Chains.{columns}

-- What is remembered of a chain whose nearest cell comes first: the farthest is seen first.
abbrev pub remembered : {M : Type 0} → (List ℕ → M → M) → M → List (List ℕ) → M
remembered see fresh [] = fresh
remembered see fresh (token ∷ tokens) = see token (remembered see fresh tokens)

-- What the memories of the spines remember after records: each of its own chain.
abbrev pub Remember : {M : Type 0} → (List ℕ → M → M) → M → List Row → List M → Type 0
Remember see fresh past memories = memories ≡ map (remembered see fresh) (columns past)

-- each memory with one cell more
abbrev pub seen_each : {M : Type 0} → (List ℕ → M → M) → List (List ℕ) → List M → List M
seen_each see [] memories = memories
seen_each see (token ∷ tokens) [] = []
seen_each see (token ∷ tokens) (memory ∷ memories) =
    see token memory ∷ seen_each see tokens memories

-- the memory of the spine at place j, with one cell more
abbrev pub seen_at : {M : Type 0} → (List ℕ → M → M) → M → List (List ℕ) → List M → ℕ → M
seen_at see fresh tokens memories j =
    see (slice_index_or tokens j []) (slice_index_or memories j fresh)

-- a spine's memory after an interpretation, from those before; an added spine remembers nothing
abbrev pub memory_of : {M : Type 0} → (List ℕ → M → M) → M → List (List ℕ) → List M → Move → M
memory_of see fresh tokens memories (Added j) = fresh
memory_of see fresh tokens memories (Same j) = seen_at see fresh tokens memories j
memory_of see fresh tokens memories (Left j) = seen_at see fresh tokens memories j
memory_of see fresh tokens memories (Right j) = seen_at see fresh tokens memories j
memory_of see fresh tokens memories (Joined first last) = seen_at see fresh tokens memories first

-- After a record behind others, whose moves these are, memories of the cells above stay memories of
-- the cells above.
abbrev pub GoOn : {M : Type 0} → (List ℕ → M → M) → M → Row → List Move → List M → List M → Type 0
GoOn see fresh row found before after =
    (past : List Row) → Remember see fresh past before → found ≡ moves (path_after past) row
    → Remember see fresh (row ∷ past) after

-- the memories of the spines, and whether memory was wanted
pub record Memories (M : Type 0) : Type 0 where
  pub each : List M
  pub spent : Bool
