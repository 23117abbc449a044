-- What a walk down a spine has come to.
use Rattle.std.specs.Prelude.{◌≡◌, ◌≢◌, ◌⊎◌, ℕ, ◌+◌, ◌-◌, ◌<◌, ◌≤◌}
use Rattle.std.specs.Prelude.{Bool, true, false}
use Rattle.std.specs.Prelude.{List, [], ◌∷◌, ◌++◌, drop, filter, length, take}
use Rattle.std.specs.Prelude.{if◌then◌else◌, slice_get, Option, Some, None}
use Rattle.std.specs.List.{list_any, join_with_byte}
use lib.Chars.{codes}
use Rattle.hum_score.specs.Row.{Row}
use Rattle.hum_score.specs.Spines.{Path}
use Rattle.hum_context.specs.declared.short.ShortText.{ShortText}
use Rattle.hum_context.specs.declared.walk.Walk.{Walk}
use Rattle.hum_context.specs.declared.becoming.Becoming.{Becoming}
use Rattle.hum_context.specs.declared.becoming.Becoming.TheVariants.{Stays, Null, Collects}
use Rattle.hum_context.specs.declared.becoming.Weight.{Weight}
use Rattle.hum_context.specs.declared.becoming.Weight.TheVariants.{Undecided, Long, Fits}
use Rattle.hum_context.specs.Context.{Choice, First, is_collectable, is_last, taken, chain}
use Rattle.hum_context.specs.Context.{new_token}
use Rattle.hum_context.specs.Columns.{column_after}
use Rattle.hum_record.specs.declared.TheConstants.{MOST_BYTES}

-- the bytes of some tokens, with one behind each
abbrev pub bytes_of : List (List ℕ) → ℕ
bytes_of [] = 0
bytes_of (token ∷ tokens) = length token + 1 + bytes_of tokens

-- a token behind those so far
abbrev pub add_token : List ℕ → List ℕ → List ℕ
add_token [] token = token
add_token (byte ∷ bytes) token = (byte ∷ bytes) ++ 32 ∷ token

-- the collectable tokens of the spine at place j in some rows, in its reach
abbrev pub collected : Choice → Path → List Row → ℕ → List (List ℕ)
collected o path rows j = filter (is_collectable o) (chain path rows j)

-- some tokens, a space before each
abbrev pub spaced : List (List ℕ) → List ℕ
spaced [] = []
spaced (token ∷ tokens) = 32 ∷ token ++ spaced tokens

-- A text says the last of some tokens.
abbrev pub Says : ShortText → List (List ℕ) → Type 0
Says text tokens = (text.missing ≤ length tokens)
    × (drop text.begin (take text.len text.bytes) ≡ spaced (drop text.missing tokens))

-- A walk from the cell at place j has gone through these rows. Tokens are counted, and their text kept,
-- where so many are wanted.
pub record Has (o : Choice) (path : Path) (rows : List Row) (j : ℕ) (walk : Walk) : Type 0 where
  pub column : walk.column ≡ column_after path rows j
  pub ended : walk.ended ≡ list_any is_last (chain path rows j)
  pub count : (n : ℕ) → o.extent ≡ First n → walk.count ≡ length (collected o path rows j)
  pub text : (n : ℕ) → o.extent ≡ First n → Says walk.text (collected o path rows j)
  pub enough : taken o.extent (collected o path rows j)
      ≡ (if walk.enough then Some (collected o path rows j) else None)

-- It has gone through some of the rows that wait, the first of which has this number.
pub record Stands (o : Choice) (path : Path) (first : ℕ) (rows : List Row) (j : ℕ) (walk : Walk)
    : Type 0 where
  pub front : List Row
  pub rest : List Row
  pub split : rows ≡ front ++ rest
  pub at : walk.at ≡ first + length front
  pub has : Has o path front j walk

-- It stands where its tokens are enough, its column has ended or no more rows wait.
pub record Halts (o : Choice) (path : Path) (first : ℕ) (rows : List Row) (j : ℕ) (walk : Walk)
    : Type 0 where
  pub stands : Stands o path first rows j walk
  pub halts : (walk.enough ≡ true) ⊎ ((walk.column ≡ None) ⊎ (stands.rest ≡ []))

-- Each walk is one from the cell at its place, unless that is still to be made.
abbrev pub AllStand : Choice → Path → ℕ → List Row → List Walk → Type 0
AllStand o path first rows walks =
    (j : ℕ) (walk : Walk) → slice_get walks j ≡ Some walk → first < walk.at
    → Stands o path first rows j walk

-- what a token becomes, with those below it in reach, if that is known
abbrev pub Becomes : Choice → List ℕ → List (List ℕ) → Option Becoming → Type 0
Becomes o token chain None = new_token o token chain ≡ None
Becomes o token chain (Some Stays) = new_token o token chain ≡ Some token
Becomes o token chain (Some Null) = new_token o token chain ≡ Some (codes ".")
Becomes o token chain (Some Collects) =
    (tokens : List (List ℕ)) × (taken o.extent (filter (is_collectable o) chain) ≡ Some tokens)
    × (new_token o token chain ≡ Some (join_with_byte 32 tokens))

-- the bytes of the new token that a token becomes, and one more
abbrev pub Takes : Choice → List ℕ → List (List ℕ) → ℕ → Type 0
Takes o token chain bytes =
    (text : List ℕ) × (new_token o token chain ≡ Some text) × (length text + 1 ≡ bytes)

-- the text of some tokens, joined by spaces, or the front of one that no record holds
abbrev pub IsJoined : List ℕ → List (List ℕ) → Type 0
IsJoined text tokens = (text ≢ []) × ((text ≡ join_with_byte 32 tokens)
    ⊎ ((MOST_BYTES < length text) × (MOST_BYTES < length (join_with_byte 32 tokens))))

-- whether some new tokens are known
abbrev pub AreKnown : Option (List (List ℕ)) → Bool → Type 0
AreKnown new false = new ≡ None
AreKnown new true = (tokens : List (List ℕ)) × (new ≡ Some tokens)

-- whether some new tokens are known, and fit into a record
abbrev pub Weighs : Option (List (List ℕ)) → Weight → Type 0
Weighs new Undecided = new ≡ None
Weighs new Long = (tokens : List (List ℕ)) × (new ≡ Some tokens) × (1048577 < bytes_of tokens)
Weighs new Fits = (tokens : List (List ℕ)) × (new ≡ Some tokens) × (bytes_of tokens ≤ 1048577)

-- so many bytes, or both are too many
abbrev pub Counts : ℕ → ℕ → Type 0
Counts size bytes = (bytes ≡ size) ⊎ ((1048577 < size) × (1048577 < bytes))

-- the new token of a cell was added to those of a record in the making
pub record Writes (o : Choice) (token : List ℕ) (chain : List (List ℕ))
    (before after : List (List ℕ) → Type 0) : Type 0 where
  pub new : List ℕ
  pub is : new_token o token chain ≡ Some new
  pub added : (made : List (List ℕ)) → before made → after (made ++ new ∷ [])

-- some token was added to them
abbrev pub HasGrown : (List (List ℕ) → Type 0) → (List (List ℕ) → Type 0) → Type 0
HasGrown before after =
    (made : List (List ℕ)) → before made → (new : List ℕ) × after (made ++ new ∷ [])

pub record IsWithout (enough : Bool) (before after : Walk) : Type 0 where
  pub column : after.column ≡ before.column
  pub ended : after.ended ≡ before.ended
  pub count : after.count ≡ before.count - 1
  pub enough_is : after.enough ≡ enough

-- A walk whose first token is taken away, which is collected; one that ended with it stands nowhere.
abbrev pub Shortens : Option ℕ → Bool → Walk → Walk → Type 0
Shortens (Some n) ends before after = IsWithout false before after
Shortens None true before after = after.at ≡ 0
Shortens None false before after = IsWithout before.enough before after
