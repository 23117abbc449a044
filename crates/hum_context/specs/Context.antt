-- What context makes of a score: data tokens with those that come next in their columns.
use Rattle.std.specs.Prelude.{ℕ, ◌+◌, ◌==◌, Bool, true, false, not, ◌&&◌, ◌||◌, nat_le}
use Rattle.std.specs.Prelude.{List, [], ◌∷◌, take, filter, length, if◌then◌else◌}
use Rattle.std.specs.Prelude.{Option, Some, None, Result, Ok, Err}
use Rattle.std.specs.Option.{option_map}
use Rattle.std.specs.List.{list_any, join_with_byte}
use lib.Chars.{codes}
use Rattle.hum_score.specs.declared.records.SpinedKind.TheVariants.{Values}
use Rattle.hum_record.specs.Contents.{is_null}
use Rattle.hum_score.specs.Row.{Row, Comment, Spined}
use Rattle.hum_score.specs.declared.spines.Sign.{Sign}
use Rattle.hum_score.specs.declared.spines.Sign.TheVariants.{End, Exclusive}
use Rattle.hum_score.specs.Sign.{sign_of}
use Rattle.hum_score.specs.Spines.{Path}
use Rattle.hum_score.specs.Score.{path_after}
use Rattle.hum_path.specs.Chains.{future}
use Rattle.hum_stage.specs.Limits.{if_fits}
use Rattle.hum_stage.specs.declared.faults.Rule.{Rule}

-- How many tokens are collected: so many, or, from one that begins, those through the first that
-- ends.
pub data Extent : Type 0 where
  First : ℕ → Extent
  Between : (List ℕ → Bool) → (List ℕ → Bool) → Extent

-- and which tokens are left out
pub record Choice : Type 0 where
  pub extent : Extent
  pub omits : List ℕ → Bool

-- whether a token is data, by its first byte; none stands beyond a record's last, and that isn't,
-- which alone differs from `is_data` of what a record's tokens contain
abbrev pub is_data : List ℕ → Bool
is_data [] = false
is_data (byte ∷ bytes) = not (byte == 33 || byte == 42)

abbrev pub is_collectable : Choice → List ℕ → Bool
is_collectable choice token = is_data token && (not (is_null token) && not (choice.omits token))

-- A column's future is ended at the end of its spine and at an exclusive interpretation.
abbrev pub is_last_sign : Sign → Bool
is_last_sign End = true
is_last_sign Exclusive = true
is_last_sign _ = false

abbrev pub is_last : List ℕ → Bool
is_last token = is_last_sign (sign_of token)

-- The part of a chain through the token that ends it. That is its reach, since no cell stands below
-- the end of a spine.
abbrev pub to_last : List (List ℕ) → List (List ℕ)
to_last [] = []
to_last (token ∷ tokens) = token ∷ (if is_last token then [] else to_last tokens)

-- The next cell of the spine at place j in some rows, and those below it, in its reach.
abbrev pub chain : Path → List Row → ℕ → List (List ℕ)
chain path rows j = to_last (future path rows j)

-- the tokens through the first that passes a test, if one does
abbrev pub through : (List ℕ → Bool) → List (List ℕ) → Option (List (List ℕ))
through ends [] = None
through ends (token ∷ tokens) =
    if ends token then Some (token ∷ [])
    else option_map (λ more. token ∷ more) (through ends tokens)

-- What is taken of collectable tokens, if they are enough.
abbrev pub taken : Extent → List (List ℕ) → Option (List (List ℕ))
taken (First n) tokens = if nat_le n (length tokens) then Some (take n tokens) else None
taken (Between begins ends) tokens = through ends tokens

-- whether a token is the first of some that are collected
abbrev pub begins : Extent → List ℕ → Bool
begins (First n) token = true
begins (Between opens ends) token = opens token

-- Those that are taken, joined by spaces. Where they aren't enough, null once the future is ended.
abbrev pub token_or_null : Bool → Option (List (List ℕ)) → Option (List ℕ)
token_or_null ended (Some tokens) = Some (join_with_byte 32 tokens)
token_or_null true None = Some (codes ".")
token_or_null false None = None

-- The new token of a cell, by its own token, itself and those below it in reach; None while it is
-- undecided.
abbrev pub new_token : Choice → List ℕ → List (List ℕ) → Option (List ℕ)
new_token choice token chain =
    if is_collectable choice token
    then (if begins choice.extent token
    then token_or_null (list_any is_last chain)
    (taken choice.extent (filter (is_collectable choice) chain))
    else Some (codes "."))
    else Some token

-- The new tokens of a record's columns from j on, which have these tokens, by the rows behind it.
abbrev pub new_tokens : Choice → Path → Row → List Row → ℕ → List (List ℕ)
    → List (Option (List ℕ))
new_tokens choice path row rows j [] = []
new_tokens choice path row rows j (token ∷ tokens) =
    new_token choice token (chain path (row ∷ rows) j)
    ∷ new_tokens choice path row rows (j + 1) tokens

abbrev pub push_front : {X : Type 0} → Option X → Option (List X) → Option (List X)
push_front None xs = None
push_front (Some x) xs = option_map (λ ys. x ∷ ys) xs

-- all of some values, if each is there
abbrev pub all_some : {X : Type 0} → List (Option X) → Option (List X)
all_some [] = Some []
all_some (x ∷ xs) = push_front x (all_some xs)

-- a data record once each of its tokens is decided
abbrev pub data_of : Option (List (List ℕ)) → Option (Result (List Row) Rule)
data_of new = option_map (λ tokens. if_fits (Spined Values tokens)) new

-- What is decided of a record by the records before it, the newest first, and those behind it.
abbrev pub context : Choice → List Row → Row → List Row → Option (Result (List Row) Rule)
context choice past (Spined Values tokens) rows =
    data_of (all_some
    (new_tokens choice (path_after past) (Spined Values tokens) rows 0 tokens))
context choice past (Comment text) rows = Some (Ok (Comment text ∷ []))
context choice past (Spined kind tokens) rows = Some (Ok (Spined kind tokens ∷ []))
