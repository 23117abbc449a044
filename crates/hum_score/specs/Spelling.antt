-- Which texts are records, and which rule the others break.
use Rattle.std.specs.Prelude.{◌≡◌, ◌≢◌, ◌≤◌, ℕ, Bool, true, false, ◌&&◌, not, ◌==◌, nat_eq}
use Rattle.std.specs.Prelude.{List, [], ◌∷◌, Result, Ok, Err, length, IsTrue, if◌then◌else◌}
use Rattle.std.specs.List.{list_any, starts_with, slice_split, join_with_byte, AllByRecursion}
use lib.Chars.{codes}
use Rattle.hum_score.specs.declared.records.SpinedKind.{SpinedKind}
use Rattle.hum_score.specs.declared.records.SpinedKind.TheVariants.{Local, Interpretation, Values}
use Rattle.hum_score.specs.declared.records.RecordFault.{RecordFault}
use Rattle.hum_score.specs.declared.records.RecordFault.TheVariants.{S4, S5, S6, S8, L1, Memory}
use Rattle.hum_score.specs.Row.{Row, Comment, Spined}

-- whether a byte stands in a text
abbrev pub has_byte : ℕ → List ℕ → Bool
has_byte b = list_any (λ x. x == b)

-- whether a text begins as a global comment does
abbrev pub is_comment : List ℕ → Bool
is_comment text = starts_with nat_eq text (codes "!!")

-- the kind that a token's first byte shows
abbrev pub kind_of_token : List ℕ → SpinedKind
kind_of_token [] = Values
kind_of_token (b ∷ bs) = if b == 33 then Local else (if b == 42 then Interpretation else Values)

-- whether two kinds are one
abbrev pub same_kind : SpinedKind → SpinedKind → Bool
same_kind Local Local = true
same_kind Interpretation Interpretation = true
same_kind Values Values = true
same_kind _ _ = false

-- A token of a spined record of a kind holds no tab, CR or LF, and is no global comment.
pub record IsToken (kind : SpinedKind) (token : List ℕ) : Type 0 where
  pub filled : token ≢ []
  pub one_token : has_byte 9 token ≡ false
  pub one_line : has_byte 13 token ≡ false
  pub no_line_end : has_byte 10 token ≡ false
  pub of_kind : kind_of_token token ≡ kind
  pub no_comment : is_comment token ≡ false

-- a token of a record; a global comment has none
abbrev pub IsTokenOf : Row → List ℕ → Type 0
IsTokenOf (Comment text) token = ⊥
IsTokenOf (Spined kind tokens) token = IsToken kind token

-- A text is a global comment with no CR or LF, or the tokens of one kind, joined by tabs.
-- It has at most 1,048,576 bytes.
abbrev pub IsTextOf : Row → List ℕ → Type 0
IsTextOf (Comment comment) text =
    (text ≡ comment) × IsTrue (is_comment text) × (has_byte 13 text ≡ false)
    × (has_byte 10 text ≡ false) × (length text ≤ 1048576)
IsTextOf (Spined kind tokens) text =
    (text ≡ join_with_byte 9 tokens) × (tokens ≢ []) × AllByRecursion (IsToken kind) tokens
    × (length text ≤ 1048576)

-- The parts of a text between its tabs.
abbrev pub parts : List ℕ → List (List ℕ)
parts = slice_split (λ b. b == 9)

-- whether a token has no byte
abbrev pub is_empty : List ℕ → Bool
is_empty token = length token == 0

-- the kind of the first of some tokens
abbrev pub kind_of_first : List (List ℕ) → SpinedKind
kind_of_first [] = Values
kind_of_first (token ∷ tokens) = kind_of_token token

-- whether some token is of another kind than the first
abbrev pub mixes_kinds : List (List ℕ) → Bool
mixes_kinds tokens =
    list_any (λ token. not (same_kind (kind_of_token token) (kind_of_first tokens))) tokens

-- The one kind of the tokens of a spined record, or the first rule that they break.
abbrev pub kind_of_tokens : List (List ℕ) → Result SpinedKind RecordFault
kind_of_tokens tokens =
    if list_any is_empty tokens then Err S4
    else if mixes_kinds tokens then Err S5
    else if same_kind (kind_of_first tokens) Local && list_any is_comment tokens then Err S6
    else Ok (kind_of_first tokens)

-- a spined record of a kind, if there is one
abbrev pub spined : Result SpinedKind RecordFault → List (List ℕ) → Result Row RecordFault
spined (Ok kind) tokens = Ok (Spined kind tokens)
spined (Err fault) tokens = Err fault

-- What a text is read as, or the first rule that it breaks, in the order of the tests.
abbrev pub reading : List ℕ → Result Row RecordFault
reading text =
    if has_byte 13 text then Err S8
    else if is_comment text then Ok (Comment text)
    else spined (kind_of_tokens (parts text)) (parts text)

-- What a text breaks that is refused by a code; L1 and running out of memory speak of no text.
abbrev pub Breaks : RecordFault → List ℕ → Type 0
Breaks S8 text = IsTrue (has_byte 13 text)
Breaks S4 text = IsTrue (list_any is_empty (parts text))
Breaks S5 text = IsTrue (mixes_kinds (parts text))
Breaks S6 text = (kind_of_first (parts text) ≡ Local) × IsTrue (list_any is_comment (parts text))
Breaks L1 text = ⊥
Breaks Memory text = ⊥

-- The fault, if it isn't running out of memory, is what reading gives.
abbrev pub Fails : {A : Type 0} → RecordFault → Result A RecordFault → Type 0
Fails Memory read = Unit {0}
Fails fault read = read ≡ Err fault

-- What a function returned is what reading gives, unless memory ran out.
abbrev pub Gives : {A : Type 0} → Result A RecordFault → Result A RecordFault → Type 0
Gives (Ok x) read = read ≡ Ok x
Gives (Err fault) read = Fails fault read
