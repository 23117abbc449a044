-- Tokens that are added to a record in the making.
use Rattle.std.proofs.lemmas.Grind.{common_steps}
use Rattle.std.proofs.Common.{◌≡◌, refl, sym, ap, ℕ, ◌+◌, ◌<◌, ◌≤◌, Bool}
use Rattle.std.proofs.Common.{List, [], ◌∷◌, ◌++◌, length, take, drop, get_or, append-nil, arith, Option}
use Rattle.std.specs.List.{AllByRecursion}
use Rattle.std.proofs.lemmas.List.{drop_all}
use Rattle.hum_record.specs.Building.{Draft}
use Rattle.hum_score.specs.Row.{Row}
use Rattle.hum_score.specs.Spelling.{IsToken}
use Rattle.hum_assemble.specs.declared.places.Place.{Place}
use Rattle.hum_assemble.specs.Merge.{all_moved, tokens_given}
use Rattle.hum_assemble.specs.Source.{Source}
use Rattle.hum_assemble.specs.Taking.{row_taken}

-- a draft with other tokens
abbrev with : Draft → List (List ℕ) → Draft
with draft tokens = record draft { tokens = tokens }

pub token_lawful : (draft old : Draft) (front ts : List (List ℕ)) (token : List ℕ) (j : ℕ) → draft ≡ with old front
    → token ≡ get_or ts j [] → AllByRecursion (IsToken old.kind) ts → j < length ts → IsToken draft.kind token
token_lawful = grind (arith, common_steps)

-- those up to place j were added
pub first_added : (old : Draft) → old ≡ with old (old.tokens ++ [])
first_added old = ap (with old) (sym (append-nil old.tokens))

pub next_added : (old before after : Draft) (ts : List (List ℕ)) (token : List ℕ) (j : ℕ)
    → before ≡ with old (old.tokens ++ take j ts) → after ≡ with before (before.tokens ++ token ∷ [])
    → token ≡ get_or ts j [] → j < length ts → after ≡ with old (old.tokens ++ take (j + 1) ts)
next_added = grind (arith, common_steps)

-- all sources have gone on
pub all_gone : (free going : Bool) (p : Place) (i : ℕ) (ss all : List Source) → length ss ≤ i
    → take i ss ++ all_moved free going p (drop i ss) ≡ all → ss ≡ all
all_gone = grind (arith, common_steps)

pub none_taken : (given : Option Row) (free going : Bool) (p : Place) (i : ℕ) (ss : List Source) (all : Option Row) → length ss ≤ i
    → row_taken given free going p (drop i ss) ≡ all → given ≡ all
none_taken given free going p i ss all over h = rw (drop_all i ss over) at h

-- nothing is added then
pub none_left : (free going : Bool) (p : Place) (i : ℕ) (ss : List Source) (tokens : List (List ℕ)) → length ss ≤ i
    → tokens ≡ [] → tokens ++ tokens_given free going p (drop i ss) ≡ []
none_left free going p i ss tokens over none = rw (none, drop_all i ss over) refl
