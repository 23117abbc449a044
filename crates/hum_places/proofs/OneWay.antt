-- By place there is one list of moves.
use Rattle.std.proofs.Common.{◌≡◌, ◌∙◌, refl, sym, ap, ℕ, zero, suc, ◌+◌, ◌<◌, ◌≤◌, ◌⊎◌, arith}
use Rattle.std.proofs.Common.{Bool, false, List, [], ◌∷◌, length, nat_lt}
use Rattle.std.proofs.Common.{Some, None, slice_get}
use Rattle.std.proofs.lemmas.Bool.Decides.{nat_tests}
use Rattle.std.specs.Str.{bytes_eq}
use lib.Chars.{codes}
use Rattle.hum_score.specs.declared.records.SpinedKind.TheVariants.{Interpretation}
use Rattle.hum_score.specs.Row.{Row, Spined}
use Rattle.hum_score.specs.declared.spines.Sign.{Sign}
use Rattle.hum_score.specs.declared.spines.Sign.TheVariants.{Exclusive, Plain}
use Rattle.hum_score.specs.declared.spines.Move.{Move}
use Rattle.hum_score.specs.declared.spines.Move.TheVariants.{Same, Left, Right, Join as Joined, Added}
use Rattle.hum_score.specs.Sign.{sign_of}
use Rattle.hum_path.specs.Places.{token_at, IsJoin}
use Rattle.hum_score.specs.Spines.{Path, Spines, heirs, moves_at, same_upto}
use Rattle.hum_score.specs.Rules.{fault_of}
use Rattle.hum_score.proofs.Cases.{by_bool}
use Rattle.hum_path.proofs.Steady.{same_upto_length, get-same_upto_first}
use Rattle.hum_places.specs.Heirs.{place_below, width_below, IsRun, AreHeirs, AreStill, StaysByPlace, IsOneWay}
use Rattle.hum_places.proofs.Heirs.{Asks, splits, joins, changes, adds, ends, nothing, asks, quiet_sign, after_at, own, width_is, by_place, is_text, other_text}
use Rattle.hum_places.proofs.Above.{cell_of, other_of}

further : (t : List ℕ) (ts : List (List ℕ)) (k : ℕ) → ¬ IsJoin ts (k + 1) → ¬ IsJoin (t ∷ ts) (suc k + 1)
further = grind (arith, nat_tests)

pub run_from : (ts : List (List ℕ)) (j : ℕ) → IsJoin ts j → (k : ℕ) × (j ≤ k) × ((i : ℕ) → j ≤ i → i ≤ k → IsJoin ts i) × (¬ IsJoin ts (k + 1))
run_from [] zero e = let w : [] ≡ codes "*v" = e in cc
run_from [] (suc j) e = let w : [] ≡ codes "*v" = e in cc
run_from (t ∷ ts) (suc j) e =
    let r = run_from ts j e in
    let order = r.1 in
    (suc r.0, omega (arith, order), shifted r.0 r.2, further t ts r.0 r.3)
  where
    shifted : (k : ℕ) → ((i : ℕ) → j ≤ i → i ≤ k → IsJoin ts i) → (i : ℕ) → suc j ≤ i → i ≤ suc k → IsJoin (t ∷ ts) i
    shifted = grind (arith, nat_tests)
run_from (t ∷ []) zero e = grind (arith, nat_tests)
run_from (t ∷ u ∷ us) zero e =
    by_bool (bytes_eq u (codes "*v"))
    (λ w.
    let r = run_from (u ∷ us) zero (is_text u (codes "*v") w) in
    (suc r.0, omega arith, more r.0 r.2, further t (u ∷ us) r.0 r.3))
    (λ w. (zero, omega arith, only, other_text u (codes "*v") w))
  where
    only : (i : ℕ) → 0 ≤ i → i ≤ 0 → IsJoin (t ∷ u ∷ us) i
    only = grind (arith, nat_tests)

    more : (k : ℕ) → ((i : ℕ) → 0 ≤ i → i ≤ k → IsJoin (u ∷ us) i) → (i : ℕ) → 0 ≤ i → i ≤ suc k → IsJoin (t ∷ u ∷ us) i
    more = grind (arith, nat_tests)

pub equal_lists : {X : Type 0} (xs ys : List X) → length xs ≡ length ys → ((i : ℕ) → i < length xs → slice_get xs i ≡ slice_get ys i) → xs ≡ ys
equal_lists [] [] h at = refl
equal_lists [] (y ∷ ys) h at = absurd (omega (arith, h))
equal_lists (x ∷ xs) [] h at = absurd (omega (arith, h))
equal_lists (x ∷ xs) (y ∷ ys) h at =
    let e : Some x ≡ Some y = at 0 (omega arith) in
    let first : x ≡ y = cc in
    let rest = equal_lists xs ys (omega (arith, h)) (λ i l. at (suc i) (omega (arith, l))) in
    rw (first, rest) refl

module _ (names tokens : List (List ℕ)) (sound : fault_of (Spines names) (Spined Interpretation tokens) ≡ None)
    (found : List Move) (heirs : AreHeirs tokens found) where
  abbrev told : List Move
  told = moves_at (Spines names) tokens

  by_heirs : AreHeirs tokens told
  by_heirs = by_place names tokens sound

  -- at a place that has one spine below it
  one_at : (j i : ℕ) (m : Move) → width_below tokens j ≡ 1 → place_below tokens j ≤ i → i < place_below tokens j + width_below tokens j
      → slice_get found (place_below tokens j) ≡ Some m → slice_get told (place_below tokens j) ≡ Some m
      → slice_get found i ≡ slice_get told i
  one_at j i m one from to a b =
      let e : i ≡ place_below tokens j = omega (arith, one, from, to) in
      rw e (a ∙ sym b)

  two_at : (j i : ℕ) (m o : Move) → width_below tokens j ≡ 2 → place_below tokens j ≤ i → i < place_below tokens j + width_below tokens j
      → (slice_get found (place_below tokens j) ≡ Some m) × (slice_get found (place_below tokens j + 1) ≡ Some o)
      → (slice_get told (place_below tokens j) ≡ Some m) × (slice_get told (place_below tokens j + 1) ≡ Some o)
      → slice_get found i ≡ slice_get told i
  two_at j i m o two from to a b =
      by_bool (nat_lt i (place_below tokens j + 1))
      (λ w. let e : i ≡ place_below tokens j = grind (arith, nat_tests, w, from) in rw e (a.0 ∙ sym b.0))
      (λ w.
      let over : place_below tokens j + 1 ≤ i = grind (arith, nat_tests, w) in
      let e : i ≡ place_below tokens j + 1 = omega (arith, over, two, to) in
      rw e (a.1 ∙ sym b.1))

  pub sized : (j : ℕ) (text : List ℕ) → token_at tokens j ≡ text → width_below tokens j ≡ own (after_at false tokens j) (sign_of text)
  sized j text e = width_is tokens j ∙ ap (λ (t : List ℕ). own (after_at false tokens j) (sign_of t)) e

  pub quiet_one : (after : Bool) (s : Sign) → (s ≡ Exclusive) ⊎ (s ≡ Plain) → own after s ≡ 1
  quiet_one = grind (arith, nat_tests)

  -- no join stands to the left of the first
  pub alone : (j : ℕ) → after_at false tokens j ≡ false → (i : ℕ) → i + 1 ≡ j → ¬ IsJoin tokens i
  alone = grind (arith, nat_tests)

  same_at : (i : ℕ) → i < length found → slice_get found i ≡ slice_get told i
  same_at i h =
      let c = cell_of names tokens sound i (length tokens) (rw heirs.count at h) in
      by_what c.0 c.1 c.2 c.3 (asks (token_at tokens c.0))
    where
      by_what : (j : ℕ) → j < length tokens → place_below tokens j ≤ i → i < place_below tokens j + width_below tokens j
          → Asks (token_at tokens j) → slice_get found i ≡ slice_get told i
      by_what j cell from to (splits e) = two_at j i (Left j) (Right j) (sized j (codes "*^") e) from to (heirs.split j e) (by_heirs.split j e)
      by_what j cell from to (joins e) =
          by_bool (after_at false tokens j)
          (λ w. let none : width_below tokens j ≡ 0 = rw w at (sized j (codes "*v") e) in absurd (omega (arith, none, from, to)))
          (λ w.
          let one : width_below tokens j ≡ 1 = rw w at (sized j (codes "*v") e) in
          let r = run_from tokens j e in
          let run : IsRun tokens j r.0 = record { order = r.1; within = r.2; left = alone j w; right = r.3 } in
          one_at j i (Joined j r.0) one from to (heirs.join j r.0 run) (by_heirs.join j r.0 run))
      by_what j cell from to (changes e) =
          let k = other_of names tokens sound j e in
          one_at j i (Same k.0) (sized j (codes "*x") e) from to
          (heirs.exchange j k.0 e k.1 (λ w. k.2 (sym w))) (by_heirs.exchange j k.0 e k.1 (λ w. k.2 (sym w)))
      by_what j cell from to (adds e) = two_at j i (Same j) (Added j) (sized j (codes "*+") e) from to (heirs.add j e) (by_heirs.add j e)
      by_what j cell from to (ends e) = let none = sized j (codes "*-") e in absurd (omega (arith, none, from, to))
      by_what j cell from to (nothing q) =
          let one : width_below tokens j ≡ 1 = width_is tokens j ∙ quiet_one (after_at false tokens j) (sign_of (token_at tokens j)) (quiet_sign (token_at tokens j) q) in
          one_at j i (Same j) one from to (heirs.quiet j cell q) (by_heirs.quiet j cell q)

pub one_way : (names tokens : List (List ℕ)) → IsOneWay names tokens
one_way names tokens sound found heirs =
    equal_lists found (moves_at (Spines names) tokens) (heirs.count ∙ sym (by_place names tokens sound).count)
    (same_at names tokens sound found heirs)

still_by : (n : ℕ) → AreStill n (same_upto 0 n)
still_by n = record { at = get-same_upto_first n; count = same_upto_length 0 n }

pub stays : (path : Path) (row : Row) → StaysByPlace path row
stays = grind (arith, nat_tests, still_by)
