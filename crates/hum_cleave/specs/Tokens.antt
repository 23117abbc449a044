-- What the tokens of the cleaved columns become.
use Rattle.std.specs.Prelude.{ℕ, Bool, ◌&&◌, ◌||◌, if◌then◌else◌}
use Rattle.std.specs.Prelude.{List, [], ◌∷◌, ◌++◌}
use Rattle.std.specs.List.{list_any}
use Rattle.std.specs.Str.{bytes_eq}
use lib.Chars.{codes}
use Rattle.hum_record.specs.Contents.{is_null, is_barline}

-- the leftmost token that isn't left out, else another one
abbrev pub leftmost : (List ℕ → Bool) → List ℕ → List (List ℕ) → List ℕ
leftmost left_out other [] = other
leftmost left_out other (token ∷ tokens) =
    if left_out token then leftmost left_out other tokens else token

-- a null local comment
abbrev pub is_null_comment : List ℕ → Bool
is_null_comment token = bytes_eq token (codes "!")

abbrev pub comment_of : List (List ℕ) → List ℕ
comment_of = leftmost is_null_comment (codes "!")

-- an interpretation that says nothing of the one column: null, a split or a join
abbrev pub is_silent : List ℕ → Bool
is_silent token =
    bytes_eq token (codes "*") || (bytes_eq token (codes "*^") || bytes_eq token (codes "*v"))

-- Where all cleaved columns end, it is an end.
abbrev pub interpretation_of : List (List ℕ) → List ℕ
interpretation_of = leftmost is_silent (codes "*")

-- A data token is left out where it is null, or a barline that is there already.
abbrev pub is_left_out : List (List ℕ) → List ℕ → Bool
is_left_out before token =
    is_null token || (is_barline token && list_any (bytes_eq token) before)

-- the tokens that are taken, where some stand to their left
abbrev pub taken : List (List ℕ) → List (List ℕ) → List (List ℕ)
taken before [] = []
taken before (token ∷ tokens) =
    if is_left_out before token then taken (before ++ token ∷ []) tokens
    else token ∷ taken (before ++ token ∷ []) tokens

-- tokens with a text before each
abbrev pub following : List ℕ → List (List ℕ) → List ℕ
following text [] = []
following text (token ∷ tokens) = text ++ (token ++ following text tokens)

-- tokens with a text between each two; a null token where there are none
abbrev pub joined : List ℕ → List (List ℕ) → List ℕ
joined text [] = codes "."
joined text (token ∷ tokens) = token ++ following text tokens

abbrev pub data_of : List ℕ → List (List ℕ) → List ℕ
data_of text tokens = joined text (taken [] tokens)

-- a text that one more token was added to
abbrev pub added : List ℕ → List ℕ → List ℕ → List ℕ
added text [] token = token
added text (byte ∷ so_far) token = ((byte ∷ so_far) ++ text) ++ token
