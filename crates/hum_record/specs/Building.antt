-- A record in the making.
use Rattle.std.specs.Prelude.{◌≡◌, ℕ, ◌≤◌, Bool, false, List, [], ◌∷◌, length}
use Rattle.std.specs.Prelude.{◌==◌, if◌then◌else◌}
use Rattle.std.specs.Prelude.{Option, None, Some, Box}
use Rattle.std.specs.List.{join_with_byte, AllByRecursion}
use Rattle.hum_score.specs.declared.records.SpinedKind.{SpinedKind}
use Rattle.hum_score.specs.Spelling.{IsToken, parts}
use Rattle.hum_record.specs.Fields.{ends_from, Written}

-- its kind and its tokens so far, and whether memory ran out
pub record Draft : Type 0 where
  pub kind : SpinedKind
  pub tokens : List (List ℕ)
  pub spent : Bool

-- the tokens in a text so far, which has none where none ends
abbrev pub tokens_in : List ℕ → List ℕ → List (List ℕ)
tokens_in text [] = []
tokens_in text (end ∷ ends) = parts text

-- what the fields of a builder stand for
abbrev pub draft_of : SpinedKind → List ℕ → List ℕ → Bool → Draft
draft_of kind text ends spent = record { kind = kind; tokens = tokens_in text ends; spent = spent }

-- tokens, joined by tabs
abbrev pub spelled : List (List ℕ) → List ℕ
spelled = join_with_byte 9

-- what goes between the tokens so far and the next
abbrev pub tab_between : List ℕ → List ℕ
tab_between [] = []
tab_between (end ∷ ends) = 9 ∷ []

-- the same where there are so many so far
abbrev pub between : ℕ → List ℕ
between count = if count == 0 then [] else 9 ∷ []

-- the fields of a builder: the text of its tokens, and where they end in it
pub record IsDraft (kind : SpinedKind) (text ends : List ℕ) : Type 0 where
  pub spelling : text ≡ spelled (tokens_in text ends)
  pub lawful : AllByRecursion (IsToken kind) (tokens_in text ends)
  pub cut : ends ≡ ends_from 0 (tokens_in text ends)
  pub at_most : length text ≤ 1048576

-- the text and the ends in a body, none where there is none
abbrev pub text_in : {Z : Type 0} → Option (Box Written Z) → List ℕ
text_in None = []
text_in (Some body) = body.value.text

abbrev pub ends_in : {Z : Type 0} → Option (Box Written Z) → List ℕ
ends_in None = []
ends_in (Some body) = body.value.ends

-- nothing is known after running out of memory
abbrev pub IsDraftUnless : Bool → SpinedKind → List ℕ → List ℕ → Type 0
IsDraftUnless spent kind text ends = spent ≡ false → IsDraft kind text ends
