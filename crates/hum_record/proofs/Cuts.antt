-- The tabs of a text, and where its tokens end.
use Rattle.std.proofs.lemmas.Grind.{common_steps}
use Rattle.std.proofs.Common.{◌≡◌, ◌≢◌, refl, ap, ℕ, ◌+◌, ◌<◌, ◌≤◌, Bool, false, not, ◌||◌, List, [], ◌∷◌, ◌++◌}
use Rattle.std.proofs.Common.{length, take, get_or, arith, append_assoc, length-append}
use Rattle.std.specs.List.{list_any, onto_first}
use Rattle.std.proofs.lemmas.Bool.Decides.{eqb_tells, nat_tests}
use Rattle.std.proofs.lemmas.List.Folds.{list_any-append}
use Rattle.std.proofs.lemmas.List.{append-nil}
use mir.Val.{bool_byte}
use Rattle.hum_score.specs.declared.records.SpinedKind.{SpinedKind}
use Rattle.hum_score.specs.Spelling.{has_byte, kind_of_token, same_kind, parts}
use Rattle.hum_record.specs.Fields.{ends_from}
use Rattle.hum_record.specs.Cutting.{tabs_from}
use Rattle.hum_record.proofs.Laws.{parts_filled}

-- whether a token is of another kind
abbrev pub is_other : SpinedKind → List ℕ → Bool
is_other kind token = not (same_kind (kind_of_token token) kind)

or_false : (b : Bool) → (b || false) ≡ b
or_false = grind (arith, nat_tests)

-- the tabs of two texts, one behind the other
pub tabs_append : (start : ℕ) (xs ys : List ℕ) → tabs_from start (xs ++ ys) ≡ tabs_from start xs ++ tabs_from (start + length xs) ys
tabs_append start [] ys = ap (λ (n : ℕ). tabs_from n ys) (omega arith)
tabs_append start (x ∷ xs) ys = grind (arith, nat_tests, tabs_append (start + 1) xs ys)

pub at_most_one : (tabs i : ℕ) (b : Bool) → tabs ≤ i → tabs + bool_byte b ≤ i + 1
at_most_one = grind (arith, nat_tests)

-- a byte more in front of the first token
ends_onto : (start x : ℕ) (ts : List (List ℕ)) → ts ≢ [] → ends_from start (onto_first x ts) ≡ ends_from (start + 1) ts
ends_onto = grind (arith, nat_tests)

-- A token ends at each tab, and the last one with the text.
pub ends_tabs : (start : ℕ) (text : List ℕ) → ends_from start (parts text) ≡ tabs_from start text ++ (start + length text) ∷ []
ends_tabs start [] = refl
ends_tabs start (x ∷ xs) =
    grind (arith, nat_tests, ends_tabs (start + 1) xs, eqb_tells, ends_onto, parts_filled)

-- What was found in the blocks so far agrees with what stands in the rest of the text.
pub record SoFar (text rest : List ℕ) (start : ℕ) (ends : List ℕ) (has_return : Bool) : Type 0 where
  pub place : start + length rest ≡ length text
  pub tabs : ends ++ tabs_from start rest ≡ tabs_from 0 text
  pub returns : (has_return || has_byte 13 rest) ≡ has_byte 13 text

or_associates : (a b c : Bool) → ((a || b) || c) ≡ (a || (b || c))
or_associates = grind (arith, nat_tests)

pub nothing_yet : (text : List ℕ) → SoFar text text 0 [] false
nothing_yet text = record { place = omega arith; tabs = refl; returns = refl }

-- the next block
pub next_block : (text rest block tail : List ℕ) (start : ℕ) (ends : List ℕ) (has_return : Bool) → SoFar text rest start ends has_return
    → rest ≡ block ++ tail → SoFar text tail (start + length block) (ends ++ tabs_from start block) (has_return || has_byte 13 block)
next_block =
    grind (arith, nat_tests, length-append, append_assoc, tabs_append, or_associates, list_any-append)

-- at the end of the text
pub all_found : (text rest : List ℕ) (start : ℕ) (ends : List ℕ) (has_return : Bool) → SoFar text rest start ends has_return → rest ≡ []
    → (has_return ≡ has_byte 13 text) × (ends ++ length text ∷ [] ≡ ends_from 0 (parts text))
all_found = grind (arith, nat_tests, or_false, append-nil, ends_tabs)

-- one token more
pub any_take : (p : List ℕ → Bool) (ts : List (List ℕ)) (j : ℕ) → j < length ts → list_any p (take (j + 1) ts) ≡ (list_any p (take j ts) || p (get_or ts j []))
any_take = grind (arith, common_steps)
