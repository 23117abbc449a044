-- Tokens that are made of what their parts give.
use Rattle.std.specs.Prelude.{◌≡◌, ℕ, List, [], ◌∷◌, ◌++◌}
use Rattle.std.specs.Prelude.{Option, None, Some, Result, Ok, Err}
use Rattle.std.specs.List.{join_with_byte}
use lib.Chars.{codes}
use Rattle.hum_score.specs.declared.records.SpinedKind.TheVariants.{Values}
use Rattle.hum_score.specs.Spelling.{IsToken}
pub use Rattle.hum_kern.specs.Subtokens.{subtokens}
use Rattle.hum_stage.specs.declared.faults.Rule.{Rule}

-- what some parts give, from what the first gives and what the others do
abbrev pub with_first : Result (Option (List ℕ)) Rule → Result (List (List ℕ)) Rule
    → Result (List (List ℕ)) Rule
with_first (Err rule) others = Err rule
with_first (Ok None) others = others
with_first (Ok (Some text)) (Ok texts) = Ok (text ∷ texts)
with_first (Ok (Some text)) (Err rule) = Err rule

-- The texts that some parts give, each at most one; or the rule of the first that is refused.
abbrev pub given_by : (List ℕ → Result (Option (List ℕ)) Rule) → List (List ℕ)
    → Result (List (List ℕ)) Rule
given_by gives [] = Ok []
given_by gives (part ∷ parts) = with_first (gives part) (given_by gives parts)

-- texts, joined by single spaces; a null token where there are none
abbrev pub joined : List (List ℕ) → List ℕ
joined [] = codes "."
joined (text ∷ texts) = join_with_byte 32 (text ∷ texts)

-- what a token of one part becomes by what that gives
abbrev pub lone_text : Option (List ℕ) → List ℕ
lone_text (Some text) = text
lone_text None = codes "."

abbrev pub if_given : Result (List (List ℕ)) Rule → Result (List ℕ) Rule
if_given (Ok texts) = Ok (joined texts)
if_given (Err rule) = Err rule

-- A token becomes what its parts give, joined by single spaces.
abbrev pub rewritten : (List ℕ → Result (Option (List ℕ)) Rule) → List ℕ → Result (List ℕ) Rule
rewritten gives token = if_given (given_by gives (subtokens token))

-- What a part gives is added, with a space behind it; or the rule is told.
abbrev pub HasAdded : Result (Option (List ℕ)) Rule → List ℕ → List ℕ → Option Rule → Type 0
HasAdded (Ok None) before after None = after ≡ before
HasAdded (Ok (Some text)) before after None = after ≡ before ++ (text ++ codes " ")
HasAdded (Ok given) before after (Some rule) = ⊥
HasAdded (Err refused) before after None = ⊥
HasAdded (Err refused) before after (Some rule) = rule ≡ refused

-- The same without the space, of a part that gives something.
abbrev pub HasPut : Result (Option (List ℕ)) Rule → List ℕ → List ℕ → Option Rule → Type 0
HasPut (Ok None) before after refused = ⊥
HasPut (Ok (Some text)) before after None = after ≡ before ++ text
HasPut (Ok (Some text)) before after (Some rule) = ⊥
HasPut (Err refused) before after None = ⊥
HasPut (Err refused) before after (Some rule) = rule ≡ refused

-- The text is what a data token becomes, and is a lawful one; or the rule is told.
abbrev pub IsRewritten : Result (List ℕ) Rule → List ℕ → Option Rule → Type 0
IsRewritten (Ok token) text None = (text ≡ token) × IsToken Values text
IsRewritten (Ok token) text (Some rule) = ⊥
IsRewritten (Err refused) text None = ⊥
IsRewritten (Err refused) text (Some rule) = rule ≡ refused
