-- What keeps the path rules: the rules one by one, records with exclusive interpretations, and what stands behind these.
use Rattle.std.proofs.lemmas.Grind.{common_steps}
use Rattle.std.proofs.Common.{◌≡◌, ◌≢◌, ◌∙◌, refl, sym, ap, ℕ, ◌+◌, ◌≤◌, ◌==◌, Bool, true, false, not, ◌&&◌}
use Rattle.std.proofs.Common.{List, [], ◌∷◌, length, map, arith, None}
use Rattle.std.specs.Prelude.{if◌then◌else◌}
use Rattle.std.specs.List.{list_any, list_all, find}
use Rattle.std.proofs.lemmas.Bool.{or_parts}
use Rattle.std.proofs.lemmas.Bool.Decides.{nat_tests}
use Rattle.std.proofs.lemmas.List.{length-map}
use Rattle.hum_score.specs.Spelling.{is_empty}
use Rattle.hum_score.specs.declared.spines.Sign.{Sign}
use Rattle.hum_score.specs.Sign.{sign_of, is_join, is_exclusive, is_path_indicator, all_plain}
use Rattle.hum_score.specs.Spines.{Path, Unopened, Spines, exchanges, names_after}
use Rattle.hum_score.specs.Rules.{breaks, breaks_as_text, in_order, has_unnamed, stays_unnamed}
use Rattle.hum_path.specs.Onward.{beginnings, onward, renamed_each}
use Rattle.hum_path.proofs.Obeyed.{Opens, Obeys, opens, obeys}
use Rattle.hum_path.proofs.Onwards.{names_onward, swapped_none, each_length}
use Rattle.hum_path.proofs.Plain.{plain_stays}
use Rattle.hum_path.proofs.Staying.{plain_breaks}

-- ---- the rules one by one

pub sound : (names tokens : List (List ℕ)) → (length names == 0) ≡ false → Obeys names tokens
    → find (breaks (Spines names) tokens) in_order ≡ None
sound = grind (arith, nat_tests, length-map)

-- spines haven't ended where an interpretation follows
pub some_spines : (names tokens : List (List ℕ)) → find (breaks (Spines names) tokens) in_order ≡ None → (length names == 0) ≡ false
some_spines = grind (arith, nat_tests)

pub opening_sound : (tokens : List (List ℕ)) → Opens tokens → find (breaks Unopened tokens) in_order ≡ None
opening_sound = grind (arith, nat_tests)

-- a local comment or data: some spines, a token for each, and none that waits for its name
pub record Fills (names tokens : List (List ℕ)) : Type 0 where
  pub some : (length names == 0) ≡ false
  pub wide : length tokens ≡ length names
  pub named : list_any is_empty names ≡ false

pub text_fills : (names tokens : List (List ℕ)) → find (breaks_as_text (Spines names) tokens) in_order ≡ None → Fills names tokens
text_fills = grind (arith, nat_tests)

pub text_sound : (names tokens : List (List ℕ)) → Fills names tokens → find (breaks_as_text (Spines names) tokens) in_order ≡ None
text_sound = grind (arith, nat_tests)

fills_some : (names tokens : List (List ℕ)) → Fills names tokens → tokens ≢ []
fills_some = grind (arith, nat_tests)

-- the rules ask only how many tokens there are
pub text_alike : (path : Path) (old new : List (List ℕ)) → length new ≡ length old
    → find (breaks_as_text path new) in_order ≡ find (breaks_as_text path old) in_order
text_alike = grind (arith, nat_tests)

-- ---- a record with an exclusive interpretation, which has no path indicator

quiet_exchanges : (j : ℕ) (signs : List Sign) → list_any is_path_indicator signs ≡ false → exchanges j signs ≡ []
quiet_exchanges j [] h = refl
quiet_exchanges j (s ∷ ss) h =
    grind (arith, nat_tests, quiet_exchanges (j + 1) ss (or_parts (is_path_indicator s) (list_any is_path_indicator ss) h).1)

quiet_onward : (added : List ℕ → List ℕ) (after_join : Bool) (signs : List Sign) (xs : List (List ℕ)) → list_any is_path_indicator signs ≡ false
    → length signs ≡ length xs → onward added (beginnings after_join signs) signs xs ≡ xs
quiet_onward added b (s ∷ ss) (x ∷ xs) h e = grind (arith, nat_tests, quiet_onward added (is_join s) ss xs)
quiet_onward added after_join signs xs h k = grind (arith, common_steps)

pub exclusive_filled : (token : List ℕ) → is_exclusive (sign_of token) ≡ true → is_empty token ≡ false
exclusive_filled = grind (arith, nat_tests)

own_filled : (name token : List ℕ) → stays_unnamed name (sign_of token) ≡ false → is_empty (if is_exclusive (sign_of token) then token else name) ≡ false
own_filled name token h = go (is_exclusive (sign_of token)) refl h
  where
    go : (b : Bool) → is_exclusive (sign_of token) ≡ b → (is_empty name && not b) ≡ false → is_empty (if b then token else name) ≡ false
    go = grind (arith, nat_tests)

each_named : (names tokens : List (List ℕ)) → has_unnamed names (map sign_of tokens) ≡ false → list_any is_empty (renamed_each names tokens) ≡ false
each_named (name ∷ names) (token ∷ tokens) h =
    grind (arith, nat_tests, each_named names tokens, or_parts, own_filled)
each_named names tokens h = grind (arith, nat_tests)

all_named : (tokens : List (List ℕ)) → list_all is_exclusive (map sign_of tokens) ≡ true → list_any is_empty tokens ≡ false
all_named [] h = refl
all_named (token ∷ tokens) h = grind (arith, nat_tests, all_named tokens)

-- After it there are as many spines as tokens, each with a name.
pub record AreNamed (names tokens : List (List ℕ)) : Type 0 where
  pub wide : length names ≡ length tokens
  pub filled : list_any is_empty names ≡ false
  pub few : length names ≤ 4096

pub named_after : (path : Path) (tokens : List (List ℕ)) → list_any is_exclusive (map sign_of tokens) ≡ true
    → find (breaks path tokens) in_order ≡ None → AreNamed (names_after path tokens) tokens
named_after Unopened tokens some h = grind (arith, nat_tests, opens, all_named)
named_after (Spines names) tokens some h =
    let k = obeys names tokens h in
    let signs = map sign_of tokens in
    let each = renamed_each names tokens in
    let quiet : list_any is_path_indicator signs ≡ false = rw some at k.steers in
    let size = each_length names tokens k.wide in
    let is : names_after (Spines names) tokens ≡ each =
    names_onward names tokens k.wide k.pair
    ∙ ap (onward (λ _. []) (beginnings false signs) signs) (swapped_none 0 signs each (quiet_exchanges 0 signs quiet))
    ∙ quiet_onward (λ _. []) false signs each quiet (length-map tokens sign_of ∙ sym size) in
    record { wide = ap length is ∙ size; filled = rw is (each_named names tokens k.unnamed); few = k.few }

any_some : (tokens : List (List ℕ)) → list_any is_exclusive (map sign_of tokens) ≡ true → (length tokens == 0) ≡ false
any_some = grind (arith, common_steps)

-- A record behind it that asks nothing breaks no rule, and changes nothing.
pub plain_behind : (path : Path) (tokens below : List (List ℕ)) → list_any is_exclusive (map sign_of tokens) ≡ true
    → find (breaks path tokens) in_order ≡ None → all_plain below ≡ true → length below ≡ length tokens
    → (find (breaks (Spines (names_after path tokens)) below) in_order ≡ None)
    × (names_after (Spines (names_after path tokens)) below ≡ names_after path tokens)
plain_behind path tokens below some h plain size =
    let names = names_after path tokens in
    let n = named_after path tokens some h in
    let f : Fills names below = record { some = rw n.wide (any_some tokens some); wide = size ∙ sym n.wide; named = n.filled } in
    (plain_breaks (Spines names) below plain (fills_some names below f) n.few ∙ text_sound names below f, plain_stays names below plain f.wide)
