-- The spines, and what a record does to them.
use Rattle.std.specs.Prelude.{ℕ, zero, suc, ◌+◌, ◌==◌, Bool, false, if◌then◌else◌}
use Rattle.std.specs.Prelude.{List, [], ◌∷◌, ◌++◌, map, length, slice_index_or}
use Rattle.hum_score.specs.declared.records.SpinedKind.TheVariants.{Interpretation}
use Rattle.hum_score.specs.Row.{Row, Comment, Spined}
use Rattle.hum_score.specs.declared.spines.Sign.{Sign}
use Rattle.hum_score.specs.declared.spines.Sign.TheVariants.{Split, Join, Exchange, Add, End, Exclusive, Plain}
use Rattle.hum_score.specs.declared.spines.Move.{Move}
use Rattle.hum_score.specs.declared.spines.Move.TheVariants.{Same, Left, Right, Join as Joined, Added}
use Rattle.hum_score.specs.Sign.{sign_of, is_join, is_exchange, is_exclusive}

-- Where the spines stand after some records: not opened yet, or each spine by its exclusive
-- interpretation, which is empty for an added spine that hasn't one yet. After the last spine's
-- end there are none.
pub data Path : Type 0 where
  Unopened : Path
  Spines : List (List ℕ) → Path

abbrev pub exclusives : Path → List (List ℕ)
exclusives Unopened = []
exclusives (Spines names) = names

abbrev pub width : Path → ℕ
width path = length (exclusives path)

-- how many joins stand in a row at the front
abbrev pub joins_at_front : List Sign → ℕ
joins_at_front [] = 0
joins_at_front (sign ∷ signs) = if is_join sign then joins_at_front signs + 1 else 0

-- the places, from j on, of the exchanged spines
abbrev pub exchanges : ℕ → List Sign → List ℕ
exchanges j [] = []
exchanges j (sign ∷ signs) =
    if is_exchange sign then j ∷ exchanges (j + 1) signs else exchanges (j + 1) signs

-- the other of two exchanged places
abbrev pub partner : List ℕ → ℕ → ℕ
partner [] j = j
partner (a ∷ []) j = j
partner (a ∷ b ∷ more) j = if j == a then b else a

-- The spines that come of the one at place j: from its sign, whether a join stands directly to its
-- left, and the signs to its right.
abbrev pub heirs : List ℕ → ℕ → Bool → Sign → List Sign → List Move
heirs pair j after_join Split signs = Left j ∷ Right j ∷ []
heirs pair j after_join Join signs =
    if after_join then [] else Joined j (j + joins_at_front signs) ∷ []
heirs pair j after_join Exchange signs = Same (partner pair j) ∷ []
heirs pair j after_join Add signs = Same j ∷ Added j ∷ []
heirs pair j after_join End signs = []
heirs pair j after_join Exclusive signs = Same j ∷ []
heirs pair j after_join Plain signs = Same j ∷ []

-- the same of all spines from place j on, left to right
abbrev pub heirs_from : List ℕ → ℕ → Bool → List Sign → List Move
heirs_from pair j after_join [] = []
heirs_from pair j after_join (sign ∷ signs) =
    heirs pair j after_join sign signs ++ heirs_from pair (j + 1) (is_join sign) signs

-- so many spines from place j on, each where it was
abbrev pub same_upto : ℕ → ℕ → List Move
same_upto j zero = []
same_upto j (suc n) = Same j ∷ same_upto (j + 1) n

-- the spines that come of those under some signs
abbrev pub moves_under : List Sign → List Move
moves_under signs = heirs_from (exchanges 0 signs) 0 false signs

-- For each spine after an interpretation, where it comes from.
abbrev pub moves_at : Path → List (List ℕ) → List Move
moves_at Unopened tokens = same_upto 0 (length tokens)
moves_at (Spines names) tokens = moves_under (map sign_of tokens)

-- The same after any record: others than interpretations change nothing.
abbrev pub moves : Path → Row → List Move
moves path (Comment text) = same_upto 0 (width path)
moves path (Spined Interpretation tokens) = moves_at path tokens
moves path (Spined kind tokens) = same_upto 0 (width path)

-- the place that a spine comes from: of joined ones the leftmost
abbrev pub source : Move → ℕ
source (Same j) = j
source (Left j) = j
source (Right j) = j
source (Joined first last) = first
source (Added j) = j

-- the exclusive interpretation of a spine after a record: its own token's, where that is one, else
-- the one before; an added spine has none yet
abbrev pub renamed : List (List ℕ) → List (List ℕ) → Move → List ℕ
renamed names tokens (Added j) = []
renamed names tokens (Same j) =
    let token = slice_index_or tokens j [] in
    if is_exclusive (sign_of token) then token else slice_index_or names j []
renamed names tokens (Left j) = slice_index_or names j []
renamed names tokens (Right j) = slice_index_or names j []
renamed names tokens (Joined first last) = slice_index_or names first []

-- the exclusive interpretations of the spines after an interpretation
abbrev pub names_after : Path → List (List ℕ) → List (List ℕ)
names_after Unopened tokens = tokens
names_after (Spines names) tokens = map (renamed names tokens) (moves_under (map sign_of tokens))

-- the spines after a record
abbrev pub after : Path → Row → Path
after path (Comment text) = path
after path (Spined Interpretation tokens) = Spines (names_after path tokens)
after path (Spined kind tokens) = path
