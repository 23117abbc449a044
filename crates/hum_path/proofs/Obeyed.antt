-- What an interpretation that breaks no rule keeps.
use Rattle.std.proofs.Common.{◌≡◌, ℕ, ◌≤◌, false, true, List, [], ◌∷◌, length, map, arith, None}
use Rattle.std.specs.List.{find, list_all}
use Rattle.std.proofs.lemmas.Bool.Decides.{nat_tests}
use Rattle.std.proofs.lemmas.List.{length-map}
use Rattle.hum_score.specs.declared.records.SpinedKind.TheVariants.{Interpretation}
use Rattle.hum_score.specs.Row.{Row, Comment, Spined}
use Rattle.hum_score.specs.Sign.{sign_of, is_exclusive}
use Rattle.hum_score.specs.Spines.{Path, Unopened, Spines, width, exchanges, names_after}
use Rattle.hum_score.specs.Rules.{breaks, in_order, has_unnamed, has_bare, names_and_steers}
use Rattle.hum_score.specs.Rules.{has_lone_join, is_pair_or_none, has_mixed_join}
use Rattle.hum_score.specs.Score.{IsOpen, path_after}
use Rattle.hum_path.proofs.Plain.{find_none}

-- at the opening
pub record Opens (tokens : List (List ℕ)) : Type 0 where
  pub exclusive : list_all is_exclusive (map sign_of tokens) ≡ true
  pub bare : has_bare tokens ≡ false
  pub few : length tokens ≤ 4096

pub opens : (tokens : List (List ℕ)) → find (breaks Unopened tokens) in_order ≡ None → Opens tokens
opens = grind (arith, nat_tests)

-- and after it
pub record Obeys (names tokens : List (List ℕ)) : Type 0 where
  pub wide : length names ≡ length tokens
  pub unnamed : has_unnamed names (map sign_of tokens) ≡ false
  pub bare : has_bare tokens ≡ false
  pub steers : names_and_steers (map sign_of tokens) ≡ false
  pub lone : has_lone_join false (map sign_of tokens) ≡ false
  pub pair : is_pair_or_none (exchanges 0 (map sign_of tokens)) ≡ true
  pub mixed : has_mixed_join names (map sign_of tokens) ≡ false
  pub few : length (names_after (Spines names) tokens) ≤ 4096

pub obeys : (names tokens : List (List ℕ)) → find (breaks (Spines names) tokens) in_order ≡ None → Obeys names tokens
obeys names tokens h = let k = find_none (breaks (Spines names) tokens) in_order h in grind (arith, nat_tests, length-map, k)

-- no score is ever wider
pub narrow : (past : List Row) → IsOpen past → width (path_after past) ≤ 4096
narrow [] h = omega arith
narrow (Comment text ∷ past) h = narrow past h.0
narrow (Spined Interpretation tokens ∷ past) h = by_path (path_after past) h.1
  where
    by_path : (path : Path) → find (breaks path tokens) in_order ≡ None → length (names_after path tokens) ≤ 4096
    by_path = grind (arith, nat_tests, opens, obeys)
narrow (Spined kind tokens ∷ past) h = narrow past h.0
