-- The cells of columns are tokens of their records.
use Rattle.std.proofs.Common.{◌≡◌, ◌≢◌, refl, subst, ℕ, zero, suc, ◌<◌, Bool, true, false, cond, List, [], ◌∷◌, map, length, get_or, arith}
use Rattle.std.specs.Prelude.{Option, None, Some}
use Rattle.std.specs.List.{AllByRecursion, find, position}
use Rattle.hum_score.specs.declared.records.SpinedKind.{SpinedKind}
use Rattle.hum_score.specs.declared.records.SpinedKind.TheVariants.{Local, Interpretation, Values}
use Rattle.hum_score.specs.Row.{Row, Comment, Spined}
use Rattle.hum_score.specs.Spelling.{IsToken, same_kind}
use Rattle.hum_record.specs.Contents.{is_data}
use Rattle.hum_score.specs.declared.spines.Move.{Move}
use Rattle.hum_score.specs.declared.spines.Move.TheVariants.{Same, Left, Right, Join as Joined, Added}
use Rattle.hum_score.specs.Sign.{sign_of, is_exclusive}
use Rattle.hum_score.specs.Spines.{Path, moves_at, after, source}
use Rattle.hum_score.specs.Score.{path_after}
use Rattle.hum_path.specs.Chains.{chain_of, longer, columns, reach, future, below_at, goes_on}
use Rattle.hum_path.proofs.Within.{moves_below}
use Rattle.hum_valid.specs.Records.{AreRecords}

-- a token of some record
abbrev pub IsCell : List ℕ → Type 0
IsCell token = (kind : SpinedKind) × IsToken kind token

abbrev pub AreCells : List (List ℕ) → Type 0
AreCells = AllByRecursion IsCell

pub cells_of : (kind : SpinedKind) (tokens : List (List ℕ)) → AllByRecursion (IsToken kind) tokens → AreCells tokens
cells_of kind [] h = tt
cells_of kind (t ∷ ts) h = ((kind, h.0), cells_of kind ts h.1)

-- one of them that is data
same_values : (kind : SpinedKind) → same_kind kind Values ≡ true → kind ≡ Values
same_values Values h = refl
same_values Local h = cc
same_values Interpretation h = cc

pub data_cell : (token : List ℕ) → IsCell token → is_data token ≡ true → IsToken Values token
data_cell token h is =
    let of_kind : h.0 ≡ Values = same_values h.0 (subst (λ (k : SpinedKind). same_kind k Values ≡ true) h.1.of_kind is) in
    subst (λ (k : SpinedKind). IsToken k token) of_kind h.1

token_at : (P : List ℕ → Type 0) (ts : List (List ℕ)) (j : ℕ) → AllByRecursion P ts → j < length ts → P (get_or ts j [])
token_at P [] j h less = absurd (omega (arith, less))
token_at P (t ∷ ts) zero h less = h.0
token_at P (t ∷ ts) (suc j) h less = token_at P ts j h.1 (omega (arith, less))

chain_at : (above : List (List (List ℕ))) (j : ℕ) → AllByRecursion AreCells above → AreCells (get_or above j [])
chain_at [] j h = tt
chain_at (chain ∷ above) zero h = h.0
chain_at (chain ∷ above) (suc j) h = chain_at above j h.1

chain_cells : (tokens : List (List ℕ)) (above : List (List (List ℕ))) (move : Move) → AreCells tokens
    → AllByRecursion AreCells above → source move < length tokens → AreCells (chain_of tokens above move)
chain_cells tokens above (Added j) h k less = tt
chain_cells tokens above (Same j) h k less = (token_at IsCell tokens j h less, chain_at above j k)
chain_cells tokens above (Left j) h k less = (token_at IsCell tokens j h less, chain_at above j k)
chain_cells tokens above (Right j) h k less = (token_at IsCell tokens j h less, chain_at above j k)
chain_cells tokens above (Joined a b) h k less = (token_at IsCell tokens a h less, chain_at above a k)

chains_cells : (tokens : List (List ℕ)) (above : List (List (List ℕ))) (moves : List Move) → AreCells tokens
    → AllByRecursion AreCells above → AllByRecursion (λ m. source m < length tokens) moves
    → AllByRecursion AreCells (map (chain_of tokens above) moves)
chains_cells tokens above [] h k less = tt
chains_cells tokens above (move ∷ moves) h k less =
    (chain_cells tokens above move h k less.0, chains_cells tokens above moves h k less.1)

longer_cells : (tokens : List (List ℕ)) (above : List (List (List ℕ))) → AreCells tokens → AllByRecursion AreCells above
    → AllByRecursion AreCells (longer tokens above)
longer_cells [] above h k = k
longer_cells (t ∷ ts) [] h k = tt
longer_cells (t ∷ ts) (chain ∷ above) h k = ((h.0, k.0), longer_cells ts above h.1 k.1)

pub columns_cells : (past : List Row) → AreRecords past → AllByRecursion AreCells (columns past)
columns_cells [] h = tt
columns_cells (Comment text ∷ past) h = columns_cells past h.1
columns_cells (Spined Interpretation tokens ∷ past) h =
    chains_cells tokens (columns past) (moves_at (path_after past) tokens) (cells_of Interpretation tokens h.0.2)
    (columns_cells past h.1) (moves_below (path_after past) tokens)
columns_cells (Spined Local tokens ∷ past) h =
    longer_cells tokens (columns past) (cells_of Local tokens h.0.2) (columns_cells past h.1)
columns_cells (Spined Values tokens ∷ past) h =
    longer_cells tokens (columns past) (cells_of Values tokens h.0.2) (columns_cells past h.1)

pub reach_cells : (tokens : List (List ℕ)) → AreCells tokens → AreCells (reach tokens)
reach_cells [] h = tt
reach_cells (t ∷ ts) h = (h.0, by (is_exclusive (sign_of t)) (reach_cells ts h.1))
  where
    by : (b : Bool) → AreCells (reach ts) → AreCells (cond b [] (reach ts))
    by true more = tt
    by false more = more

-- what is found among some tokens is one of them, and passes
pub found_cell : (test : List ℕ → Bool) (ts : List (List ℕ)) (token : List ℕ) → AreCells ts → find test ts ≡ Some token
    → IsCell token × (test token ≡ true)
found_cell test [] token h e = cc
found_cell test (t ∷ ts) token h e = by (test t) refl (λ f. found_cell test ts token h.1 f) e
  where
    by : (b : Bool) → test t ≡ b → (find test ts ≡ Some token → IsCell token × (test token ≡ true))
        → cond b (Some t) (find test ts) ≡ Some token → IsCell token × (test token ≡ true)
    by true is more e = let same : t ≡ token = cc in subst (λ (x : List ℕ). IsCell x × (test x ≡ true)) same (h.0, is)
    by false is more e = more e

-- The same below a place, where nothing stands beyond a record's last token.

abbrev pub IsCellOrNone : List ℕ → Type 0
IsCellOrNone token = token ≢ [] → IsCell token

none_there : IsCellOrNone []
none_there = λ some. absurd (some refl)

or_none : (ts : List (List ℕ)) (j : ℕ) → AreCells ts → IsCellOrNone (get_or ts j [])
or_none [] j h = none_there
or_none (t ∷ ts) zero h = λ some. h.0
or_none (t ∷ ts) (suc j) h = or_none ts j h.1

pub future_cells : (path : Path) (rows : List Row) (j : ℕ) → AreRecords rows → AllByRecursion IsCellOrNone (future path rows j)
future_cells path [] j h = tt
future_cells path (Comment text ∷ rows) j h = future_cells path rows j h.1
future_cells path (Spined Local tokens ∷ rows) j h =
    (or_none tokens j (cells_of Local tokens h.0.2), future_cells path rows j h.1)
future_cells path (Spined Values tokens ∷ rows) j h =
    (or_none tokens j (cells_of Values tokens h.0.2), future_cells path rows j h.1)
future_cells path (Spined Interpretation tokens ∷ rows) j h = (
  or_none tokens j (cells_of Interpretation tokens h.0.2),
  below (position (goes_on j) (moves_at path tokens))
      (λ i. future_cells (after path (Spined Interpretation tokens)) rows i h.1),
)
  where
    below : (place : Option ℕ) → ((i : ℕ) → AllByRecursion IsCellOrNone (future (after path (Spined Interpretation tokens)) rows i))
        → AllByRecursion IsCellOrNone (below_at (future (after path (Spined Interpretation tokens)) rows) place)
    below None more = tt
    below (Some i) more = more i
