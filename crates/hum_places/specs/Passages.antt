-- The passage of a record, by the nearest marker above it.
use Rattle.std.specs.Prelude.{◌≡◌, ℕ, ◌<◌, ◌≤◌, ◌^◌, true, false, decimal, List, [], ◌∷◌, length, drop}
use Rattle.std.specs.Prelude.{slice_index_or, None, Some}
use Rattle.hum_score.specs.Row.{Row, Comment}
use Rattle.hum_yank.specs.Passages.{Form, is_marker, is_last, number_at, number_of, passage_of}

-- the record at a place of those so far, the newest first: its own place is 0
abbrev pub row_at : List Row → ℕ → Row
row_at seen k = slice_index_or seen k (Comment [])

-- the nearest marker, the record itself included
pub record IsNearest (form : Form) (seen : List Row) (k : ℕ) : Type 0 where
  pub within : k < length seen
  pub marker : is_marker form (row_at seen k) ≡ true
  pub first : (i : ℕ) → i < k → is_marker form (row_at seen i) ≡ false

-- the passage that it begins has ended above the record
pub record HasEnded (form : Form) (seen : List Row) (k i : ℕ) : Type 0 where
  pub above : 0 < i
  pub within : i ≤ k
  pub ends : is_last form (row_at seen i) ≡ true

-- A record lies in the passage of the nearest marker above it, or of itself, if that hasn't ended above
-- it. Then it has the number that the passage bears. Before the first marker it has that of passage 0,
-- if there is one.
pub record IsByNearest (form : Form) (past : List Row) (row : Row) : Type 0 where
  pub inside : (k : ℕ) → IsNearest form (row ∷ past) k
      → ((i : ℕ) → ¬ HasEnded form (row ∷ past) k i)
      → passage_of form past row ≡ number_at form (drop k (row ∷ past))
  pub behind : (k i : ℕ) → IsNearest form (row ∷ past) k → HasEnded form (row ∷ past) k i
      → passage_of form past row ≡ None
  pub before : ((i : ℕ) → i < length (row ∷ past) → is_marker form (row_at (row ∷ past) i) ≡ false)
      → passage_of form past row ≡ number_at form []

-- Digits bear the number that they write, whatever zeros stand before it, up to 4,294,967,295.
pub record AreNumbers : Type 0 where
  pub told : (n : ℕ) → n ≤ 4294967295 → number_of (decimal n) ≡ Some n
  pub great : (n : ℕ) → 4294967295 < n → n < 2 ^ 64 → number_of (decimal n) ≡ None
  pub zeros : (digit : ℕ) (digits : List ℕ)
      → number_of (48 ∷ digit ∷ digits) ≡ number_of (digit ∷ digits)
