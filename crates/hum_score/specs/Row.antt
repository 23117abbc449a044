-- Records as a reader sees them, and their texts.
use Rattle.std.specs.Prelude.{ℕ, Bool, true, false, List, [], ◌∷◌, length, slice_index_or}
use Rattle.std.specs.List.{join_with_byte}
use Rattle.hum_score.specs.declared.records.Kind.{Kind}
use Rattle.hum_score.specs.declared.records.Kind.TheVariants.{Global, Local as AnyLocal}
use Rattle.hum_score.specs.declared.records.Kind.TheVariants.{Interpretation as AnyInterpretation, Values as AnyValues}
use Rattle.hum_score.specs.declared.records.SpinedKind.{SpinedKind}
use Rattle.hum_score.specs.declared.records.SpinedKind.TheVariants.{Local, Interpretation, Values}

-- A global comment by its text, or a record of a kind with one token for each spine.
pub data Row : Type 0 where
  Comment : List ℕ → Row
  Spined : SpinedKind → List (List ℕ) → Row

-- the text: the tokens, joined by tabs
abbrev pub text_of : Row → List ℕ
text_of (Comment text) = text
text_of (Spined kind tokens) = join_with_byte 9 tokens

-- a spined kind, among all kinds
abbrev pub as_kind : SpinedKind → Kind
as_kind Local = AnyLocal
as_kind Interpretation = AnyInterpretation
as_kind Values = AnyValues

abbrev pub kind_of : Row → Kind
kind_of (Comment text) = Global
kind_of (Spined kind tokens) = as_kind kind

-- a global comment has none
abbrev pub tokens_of : Row → List (List ℕ)
tokens_of (Comment text) = []
tokens_of (Spined kind tokens) = tokens

abbrev pub width_of : Row → ℕ
width_of row = length (tokens_of row)

abbrev pub token_at : Row → ℕ → List ℕ
token_at row j = slice_index_or (tokens_of row) j []

-- the record of a kind with this text and these tokens
abbrev pub row_of : Kind → List ℕ → List (List ℕ) → Row
row_of Global text tokens = Comment text
row_of AnyLocal text tokens = Spined Local tokens
row_of AnyInterpretation text tokens = Spined Interpretation tokens
row_of AnyValues text tokens = Spined Values tokens

-- what stands at the chosen places of a list
abbrev pub chosen : {X : Type 0} → List Bool → List X → List X
chosen [] xs = []
chosen (flag ∷ flags) [] = []
chosen (true ∷ flags) (x ∷ xs) = x ∷ chosen flags xs
chosen (false ∷ flags) (x ∷ xs) = chosen flags xs

-- a record with its chosen tokens alone
abbrev pub with_chosen : List Bool → Row → Row
with_chosen flags (Comment text) = Comment text
with_chosen flags (Spined kind tokens) = Spined kind (chosen flags tokens)
