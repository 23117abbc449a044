-- Names and tokens that are changed one by one, where each keeps its sign and stays empty or filled, keep the path rules.
use Rattle.std.proofs.lemmas.Grind.{common_steps}
use Rattle.std.proofs.Common.{◌≡◌, refl, sym, ℕ, suc, Bool, false, not, ◌&&◌, List, [], ◌∷◌, map, cond, get_or, arith, None}
use Rattle.std.specs.List.{list_any, find}
use Rattle.std.specs.Str.{bytes_eq}
use Rattle.std.proofs.lemmas.Bool.{or_parts, or_from, not-false}
use Rattle.std.proofs.lemmas.Bool.Decides.{nat_tests}
use Rattle.std.proofs.lemmas.Slice.Eq.{bytes_eq-Decides}
use Rattle.std.proofs.lemmas.List.{length-map}
use lib.Chars.{codes}
use Rattle.hum_score.specs.Spelling.{is_empty}
use Rattle.hum_score.specs.declared.spines.Sign.{Sign}
use Rattle.hum_score.specs.declared.spines.Move.{Move}
use Rattle.hum_score.specs.declared.spines.Move.TheVariants.{Same, Left, Right, Join as Joined, Added}
use Rattle.hum_score.specs.Sign.{sign_of, is_exclusive}
use Rattle.hum_score.specs.Spines.{Path, Unopened, Spines, moves_under, renamed, names_after}
use Rattle.hum_score.specs.Rules.{breaks, in_order, has_bare, has_unnamed, has_mixed_join, mixes_join}
use Rattle.hum_path.proofs.Obeyed.{Opens, Obeys, opens, obeys}
use Rattle.hum_path.proofs.Kept.{sound, opening_sound, some_spines}

-- what is asked of the change of a single token
pub record KeepsToken (new : List ℕ → List ℕ) : Type 0 where
  pub nothing : new [] ≡ []
  pub sign : (t : List ℕ) → sign_of (new t) ≡ sign_of t
  pub empty : (t : List ℕ) → is_empty (new t) ≡ is_empty t
  pub bare : (t : List ℕ) → bytes_eq (codes "**") t ≡ false → bytes_eq (codes "**") (new t) ≡ false

-- the spines under changed names
abbrev pub changed_path : (List ℕ → List ℕ) → Path → Path
changed_path new Unopened = Unopened
changed_path new (Spines names) = Spines (map new names)

module _ (new : List ℕ → List ℕ) (keeps : KeepsToken new) where
  signs : (ts : List (List ℕ)) → map sign_of (map new ts) ≡ map sign_of ts
  signs [] = refl
  signs (t ∷ ts) = let a = keeps.sign t in let b = signs ts in cc

  bare : (ts : List (List ℕ)) → has_bare ts ≡ false → has_bare (map new ts) ≡ false
  bare [] h = refl
  bare (t ∷ ts) h = grind (arith, common_steps, bare ts)

  unnamed : (names : List (List ℕ)) (ss : List Sign) → has_unnamed (map new names) ss ≡ has_unnamed names ss
  unnamed (n ∷ ns) (s ∷ ss) = let a = keeps.empty n in let b = unnamed ns ss in cc
  unnamed names ss = grind (arith, nat_tests)

  pub changed_empty : (names : List (List ℕ)) → list_any is_empty (map new names) ≡ list_any is_empty names
  changed_empty [] = refl
  changed_empty (n ∷ ns) = let a = keeps.empty n in let b = changed_empty ns in cc

  apart : (a b : List ℕ) → not (bytes_eq a b) ≡ false → not (bytes_eq (new a) (new b)) ≡ false
  apart = grind (arith, nat_tests, bytes_eq-Decides, not-false)

  weaker : (a b c d : Bool) → (c ≡ false → d ≡ false) → (a && (b && c)) ≡ false → (a && (b && d)) ≡ false
  weaker = grind (arith, nat_tests)

  mixes : (names : List (List ℕ)) (ss : List Sign) → mixes_join names ss ≡ false → mixes_join (map new names) ss ≡ false
  mixes = grind (arith, nat_tests, weaker, apart)

  mixed : (names : List (List ℕ)) (ss : List Sign) → has_mixed_join names ss ≡ false → has_mixed_join (map new names) ss ≡ false
  mixed (n ∷ ns) (s ∷ ss) h =
      let both = or_parts (mixes_join (n ∷ ns) (s ∷ ss)) (has_mixed_join ns ss) h in
      or_from _ _ (mixes (n ∷ ns) (s ∷ ss) both.0) (mixed ns ss both.1)
  mixed names ss h = grind (arith, nat_tests)

  chosen : (b : Bool) (x y : List ℕ) → cond b (new x) (new y) ≡ new (cond b x y)
  chosen = grind (arith, nat_tests)

  at_place : (xs : List (List ℕ)) (j : ℕ) → get_or (map new xs) j [] ≡ new (get_or xs j [])
  at_place (x ∷ xs) (suc j) = at_place xs j
  at_place xs j = grind (arith, nat_tests)

  one_renamed : (names tokens : List (List ℕ)) (m : Move) → renamed (map new names) (map new tokens) m ≡ new (renamed names tokens m)
  one_renamed names tokens (Added j) = sym keeps.nothing
  one_renamed names tokens (Left j) = at_place names j
  one_renamed names tokens (Right j) = at_place names j
  one_renamed names tokens (Joined first last) = at_place names first
  one_renamed names tokens (Same j) =
      rw (at_place tokens j, at_place names j, keeps.sign (get_or tokens j []))
      (chosen (is_exclusive (sign_of (get_or tokens j []))) (get_or tokens j []) (get_or names j []))

  all_renamed : (names tokens : List (List ℕ)) (ms : List Move) → map (renamed (map new names) (map new tokens)) ms ≡ map new (map (renamed names tokens) ms)
  all_renamed names tokens [] = refl
  all_renamed names tokens (m ∷ ms) = let a = one_renamed names tokens m in let b = all_renamed names tokens ms in cc

  pub changed_names : (path : Path) (tokens : List (List ℕ)) → names_after (changed_path new path) (map new tokens) ≡ map new (names_after path tokens)
  changed_names Unopened tokens = refl
  changed_names (Spines names) tokens = rw (signs tokens) (all_renamed names tokens (moves_under (map sign_of tokens)))

  obeys_still : (names tokens : List (List ℕ)) → Obeys names tokens → Obeys (map new names) (map new tokens)
  obeys_still = grind (arith, nat_tests, length-map, unnamed, signs, bare, mixed, changed_names)

  opens_still : (tokens : List (List ℕ)) → Opens tokens → Opens (map new tokens)
  opens_still = grind (arith, nat_tests, signs, bare, length-map)

  -- The changed record breaks no rule where the record broke none.
  pub changed_sound : (path : Path) (tokens : List (List ℕ)) → find (breaks path tokens) in_order ≡ None
      → find (breaks (changed_path new path) (map new tokens)) in_order ≡ None
  changed_sound Unopened tokens h = opening_sound (map new tokens) (opens_still tokens (opens tokens h))
  changed_sound (Spines names) tokens h =
      sound (map new names) (map new tokens) (rw (length-map names new) (some_spines names tokens h)) (obeys_still names tokens (obeys names tokens h))
