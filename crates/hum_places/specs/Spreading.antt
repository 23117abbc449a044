-- The records of the spread rule, by the places of the tokens that are kept.
use Rattle.std.specs.Prelude.{◌≡◌, ◌≢◌, ℕ, zero, suc, ◌+◌, ◌<◌}
use Rattle.std.specs.Prelude.{◌⊎◌, nat_le, Bool, true, false, not, ◌&&◌, ◌||◌}
use Rattle.std.specs.Prelude.{if◌then◌else◌, List, [], ◌∷◌, length, Some, slice_get, slice_index_or}
use lib.Chars.{codes}
use Rattle.hum_columns.specs.Spread.{JoinedToken, piece, joins, goes_on, tokens_in, spread}

-- the token at place q, with whether it begins a join
abbrev pub piece_at : List JoinedToken → ℕ → JoinedToken
piece_at pieces q = slice_index_or pieces q (piece false [])

-- whether it is of a join: it begins one, or goes on with that of its left neighbour
abbrev pub is_joined : List JoinedToken → ℕ → Bool
is_joined pieces zero = (piece_at pieces 0).begins
is_joined pieces (suc q) =
    (piece_at pieces (suc q)).begins || (is_joined pieces q && goes_on (piece_at pieces (suc q)))

-- how many joins begin among the first n tokens
abbrev pub begun : List JoinedToken → ℕ → ℕ
begun pieces zero = 0
begun pieces (suc n) =
    if (piece_at pieces n).begins then begun pieces n + 1 else begun pieces n

-- The number of the join that a token is of, from the left, counted from 1.
abbrev pub join_number : List JoinedToken → ℕ → ℕ
join_number pieces q = begun pieces (q + 1)

-- Whether a token has no place in record t, counted from 0: of each of the first t joins, which
-- stand in the records before it, only the first token keeps one.
abbrev pub is_gone : List JoinedToken → ℕ → ℕ → Bool
is_gone pieces t q =
    is_joined pieces q && (not (piece_at pieces q).begins && nat_le (join_number pieces q) t)

-- its place there, if it has one: as many as have one to its left
abbrev pub place_in : List JoinedToken → ℕ → ℕ → ℕ
place_in pieces t zero = 0
place_in pieces t (suc q) =
    if is_gone pieces t q then place_in pieces t q else place_in pieces t q + 1

-- this is what stands at the place of the token at place q in record t
abbrev pub Stands : List JoinedToken → List (List (List ℕ)) → ℕ → ℕ → List ℕ → Type 0
Stands pieces records t q token =
    slice_get (slice_index_or records t []) (place_in pieces t q) ≡ Some token

-- Of all that doesn't stand in record t: of another join, or of none where the record isn't the last.
abbrev pub IsElsewhere : List JoinedToken → List (List (List ℕ)) → ℕ → ℕ → Type 0
IsElsewhere pieces records t q =
    ((is_joined pieces q ≡ true) × (join_number pieces q ≢ t + 1))
    ⊎ ((is_joined pieces q ≡ false) × (t + 1 ≢ length records))

-- As many records as there are joins. Each has its own join, the first record the leftmost; the last
-- has all tokens that are of no join; elsewhere stands `*`.
pub record AreOneByOne (pieces : List JoinedToken) (records : List (List (List ℕ))) : Type 0 where
  pub count : length records ≡ begun pieces (length pieces)
  pub join : (t q : ℕ) → t < length records → q < length pieces → is_joined pieces q ≡ true
      → join_number pieces q ≡ t + 1 → Stands pieces records t q (piece_at pieces q).token
  pub others : (t q : ℕ) → t + 1 ≡ length records → q < length pieces
      → is_joined pieces q ≡ false → Stands pieces records t q (piece_at pieces q).token
  pub elsewhere : (t q : ℕ) → t < length records → q < length pieces
      → is_gone pieces t q ≡ false → IsElsewhere pieces records t q
      → Stands pieces records t q (codes "*")
  pub width : (t : ℕ) → t < length records
      → length (slice_index_or records t []) ≡ place_in pieces t (length pieces)

-- a join begins directly to the right of a `*v`
abbrev pub Touch : List JoinedToken → ℕ → Type 0
Touch pieces q =
    (joins (piece_at pieces q) ≡ true) × ((piece_at pieces (q + 1)).begins ≡ true)

-- Where no two joins touch, there is one record of all tokens; else one for each join.
pub record AreSpread (pieces : List JoinedToken) (records : List (List (List ℕ))) : Type 0 where
  pub single : ((q : ℕ) → ¬ Touch pieces q) → records ≡ tokens_in pieces ∷ []
  pub apart : (q : ℕ) → Touch pieces q → AreOneByOne pieces records

-- The records of the spread rule are so, and no others are.
abbrev pub SpreadsByPlace : List JoinedToken → Type 0
SpreadsByPlace pieces =
    AreSpread pieces (spread pieces)
    × ((records : List (List (List ℕ))) → AreSpread pieces records → records ≡ spread pieces)
