-- What a teller of tokens is asked for, and what it answers.
use Rattle.std.specs.Prelude.{◌≡◌, ℕ, ◌<◌, Bool, List, [], ◌∷◌, ◌++◌, length, slice_index_or}
use Rattle.std.specs.Prelude.{slice_set, Option, None, Some, Result, Ok, Err, IfOk}
use Rattle.hum_score.specs.Row.{Row}
use Rattle.hum_score.specs.declared.spines.Move.{Move}
use Rattle.hum_score.specs.Spines.{Path, moves}
use Rattle.hum_score.specs.Score.{IsOpen, path_after}
use Rattle.hum_path.specs.Chains.{columns}
use Rattle.hum_stage.specs.declared.faults.Rule.{Rule}
use Rattle.hum_stage.specs.Decided.{Decision}
use Rattle.hum_cells.specs.declared.rewriter.Heading.{Heading as Shown}
use Rattle.hum_cells.specs.declared.rewriter.Heading.TheVariants.{Renamed as ShownRenamed}
use Rattle.hum_cells.specs.declared.rewriter.Heading.TheVariants.{Followed as ShownFollowed}
use Rattle.hum_cells.specs.declared.rewritten.Rewritten.{Rewritten}
use Rattle.hum_cells.specs.declared.rewritten.Rewritten.TheVariants.{Same, Other, With}
use Rattle.hum_cells.specs.Rewriting.{Heading, Renamed, Followed, Rewriting}
use Rattle.hum_cells.specs.Rewriting.{kern_columns, rewritten, rewrite}

-- what a heading shows, by its text
abbrev pub shown : Shown → Heading
shown (ShownRenamed name) = Renamed name.now
shown (ShownFollowed tandem) = Followed tandem.now

-- the cells of each column, the nearest first
abbrev pub Columns : Type 0
Columns = List (List (List ℕ))

-- columns of which the one at place j has one cell more
abbrev pub one_longer : ℕ → List ℕ → Columns → Columns
one_longer j token above = slice_set above j (token ∷ slice_index_or above j [])

-- columns that a teller follows, and the place of one of them
pub record MayHear (follows : Rewriting → Columns → Type 0) (j : ℕ) : Type 0 where
  pub rewriting : Rewriting
  pub above : Columns
  pub memory : follows rewriting above
  pub column : j < length above

-- One cell more of a column was heard, by each rewriting and whatever columns the teller followed.
abbrev pub HasHeard : (Rewriting → Columns → Type 0) → (Rewriting → Columns → Type 0) → ℕ → List ℕ
    → Type 0
HasHeard before after j token =
    (rewriting : Rewriting) (above : Columns) → before rewriting above
    → after rewriting (one_longer j token above)

-- what a token became stands behind the others, or it is refused
abbrev pub Pushes : Result (List ℕ) Rule → (List (List ℕ) → Type 0) → (List (List ℕ) → Type 0)
    → Option Rule → Type 0
Pushes becomes before after None =
    (text : List ℕ) × (becomes ≡ Ok text)
    × ((tokens : List (List ℕ)) → before tokens → after (tokens ++ text ∷ []))
Pushes becomes before after (Some rule) = becomes ≡ Err rule

-- The same, and what the cell becomes was added to a record in the making.
abbrev pub HasRewritten : (Rewriting → Columns → Type 0) → (Rewriting → Columns → Type 0) → ℕ
    → List ℕ → (List (List ℕ) → Type 0) → (List (List ℕ) → Type 0) → Option Rule → Type 0
HasRewritten before after j token made making refused =
    (rewriting : Rewriting) (above : Columns) → before rewriting above
    → after rewriting (one_longer j token above)
    × Pushes (rewriting.becomes (slice_index_or above j []) token) made making refused

-- a record after records that a teller follows, and where the spines come from
pub record MayFollow (follows : Rewriting → Columns → Type 0) (row : Row) (found : List Move)
    : Type 0 where
  pub rewriting : Rewriting
  pub past : List Row
  pub memory : follows rewriting (columns past)
  pub score : IsOpen (row ∷ past)
  pub moved : found ≡ moves (path_after past) row

-- What followed records follows them with this one.
abbrev pub HasFollowed : (Rewriting → Columns → Type 0) → (Rewriting → Columns → Type 0) → Row
    → List Move → Type 0
HasFollowed before after row found =
    (rewriting : Rewriting) (past : List Row) → before rewriting (columns past)
    → IsOpen (row ∷ past) → found ≡ moves (path_after past) row
    → after rewriting (columns (row ∷ past))

-- the heading is that of each rewriting
abbrev pub ShowsHeading : (Rewriting → Columns → Type 0) → Shown → Type 0
ShowsHeading follows heading =
    (rewriting : Rewriting) (above : Columns) → follows rewriting above
    → shown heading ≡ rewriting.heading

-- The fields of the frame: it decides by a rewriting that its teller follows, has followed the
-- spines, and knows which of them are under **kern.
pub record Frames (follows : Rewriting → Columns → Type 0) (path : Path) (kern : List Bool)
    (decide : Decision) (past : List Row) : Type 0 where
  pub rewriting : Rewriting
  pub command : decide ≡ rewrite rewriting
  pub memory : follows rewriting (columns past)
  pub spines : path ≡ path_after past
  pub kern_is : kern ≡ kern_columns past

-- what is decided of a record
abbrev pub decision : Row → Result Rewritten Rule → Result (List Row) Rule
decision row (Ok Same) = Ok (row ∷ [])
decision row (Ok (Other made)) = Ok (made ∷ [])
decision row (Ok (With behind)) = Ok (row ∷ behind ∷ [])
decision row (Err rule) = Err rule

-- a record that a teller has followed, by which columns were under **kern in front of it
pub record MayTell (follows : Rewriting → Columns → Type 0) (kern : List Bool) (row : Row)
    : Type 0 where
  pub rewriting : Rewriting
  pub past : List Row
  pub memory : follows rewriting (columns (row ∷ past))
  pub kern_is : kern ≡ kern_columns past
  pub score : IsOpen (row ∷ past)

-- What a record becomes by each rewriting and each past with which a teller has followed it, and
-- follows it still.
abbrev pub HasTold : (Rewriting → Columns → Type 0) → (Rewriting → Columns → Type 0)
    → List Bool → Row → Result Rewritten Rule → Type 0
HasTold before after kern row told =
    (rewriting : Rewriting) (past : List Row) → before rewriting (columns (row ∷ past))
    → kern ≡ kern_columns past → IsOpen (row ∷ past)
    → after rewriting (columns (row ∷ past)) × (rewrite rewriting past row ≡ decision row told)

-- a record behind those that a teller follows, by which columns are under **kern
pub record MayTellData (follows : Rewriting → Columns → Type 0) (kern : List Bool) (row : Row)
    : Type 0 where
  pub rewriting : Rewriting
  pub past : List Row
  pub memory : follows rewriting (columns past)
  pub kern_is : kern ≡ kern_columns past
  pub score : IsOpen (row ∷ past)

-- What a record becomes by each rewriting and each past that a teller followed, and unless it is
-- refused the teller follows it then.
abbrev pub HasToldData : (Rewriting → Columns → Type 0) → (Rewriting → Columns → Type 0)
    → List Bool → Row → Result Rewritten Rule → Type 0
HasToldData before after kern row told =
    (rewriting : Rewriting) (past : List Row) → before rewriting (columns past)
    → kern ≡ kern_columns past → IsOpen (row ∷ past)
    → IfOk told (λ _. after rewriting (columns (row ∷ past)))
    × (rewrite rewriting past row ≡ decision row told)

-- The same of a token of any column, by whether that is under **kern.
abbrev pub HasPushed : (Rewriting → Columns → Type 0) → (Rewriting → Columns → Type 0) → ℕ → Bool
    → List ℕ → (List (List ℕ) → Type 0) → (List (List ℕ) → Type 0) → Option Rule → Type 0
HasPushed before after j kern token made making refused =
    (rewriting : Rewriting) (above : Columns) → before rewriting above
    → after rewriting (one_longer j token above)
    × Pushes (rewritten rewriting.becomes kern (slice_index_or above j []) token) made making refused
