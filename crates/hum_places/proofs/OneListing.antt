-- By multiples there is one list of records.
use Rattle.std.proofs.lemmas.Bool.Decides.{nat_tests}
use Rattle.std.proofs.lemmas.Grind.{common_steps}
use Rattle.std.proofs.Common.{◌≡◌, ◌∙◌, refl, sym, ap, ℕ, zero, suc, ◌+◌, ◌<◌, ◌≤◌, ◌↔◌, Bool, true, false, List, [], ◌∷◌, ◌++◌}
use Rattle.std.proofs.Common.{length, Option, arith}
use Rattle.std.specs.Prelude.{slice_index_or}
use Rattle.std.specs.List.{Contains}
use Rattle.hum_score.specs.Row.{Row}
use Rattle.hum_score.proofs.Cases.{by_bool}
use Rattle.hum_frac.specs.Ratio.{Ratio}
use Rattle.hum_frac.specs.Multiples.{IsMultiple, is_multiple}
use Rattle.hum_frac.proofs.Ratios.{multiple_test}
use Rattle.hum_places.specs.Grid.{AreMultiples, nulls_at, StandAtMultiples}

-- each is less than those behind it
abbrev Ascends : List ℕ → Type 0
Ascends xs = (i : ℕ) → i + 1 < length xs → slice_index_or xs i 0 < slice_index_or xs (i + 1) 0

tail_ascends : (x : ℕ) (xs : List ℕ) → Ascends (x ∷ xs) → Ascends xs
tail_ascends x xs h i below =
    let next : suc i + 1 ≡ suc (i + 1) = omega arith in
    rw next at (h (suc i) (omega (arith, below)))

first_least : (x : ℕ) (xs : List ℕ) → Ascends (x ∷ xs) → (i : ℕ) → i < length xs → x < slice_index_or xs i 0
first_least x xs h zero below = h zero (omega (arith, below))
first_least x [] h (suc i) below = absurd (omega (arith, below))
first_least x (y ∷ ys) h (suc i) below =
    let less : x < y = h zero (omega (arith, below)) in
    let more = first_least y ys (tail_ascends x (y ∷ ys) h) i (omega (arith, below)) in
    omega (arith, less, more)

-- whatever stands where there is none
there : (xs : List ℕ) (i d e : ℕ) → i < length xs → slice_index_or xs i d ≡ slice_index_or xs i e
there = grind (arith, common_steps)

least_of : (x : ℕ) (xs : List ℕ) → Ascends (x ∷ xs) → (k : ℕ) → Contains (x ∷ xs) k → x ≤ k
least_of x xs h k c = by_index c.0 c.1 c.2
  where
    by_index : (i : ℕ) → i < length (x ∷ xs) → slice_index_or (x ∷ xs) i k ≡ k → x ≤ k
    by_index zero below e = omega (arith, e)
    by_index (suc i) below e =
        let less = first_least x xs h i (omega (arith, below)) in
        let same = there xs i 0 k (omega (arith, below)) in
        omega (arith, less, same, e)

behind_first : (x : ℕ) (xs : List ℕ) (k : ℕ) → x < k → Contains (x ∷ xs) k → Contains xs k
behind_first = grind (arith, nat_tests)

above_first : (x : ℕ) (xs : List ℕ) → Ascends (x ∷ xs) → (k : ℕ) → Contains xs k → x < k
above_first x xs h k c =
    let below = c.1 in
    let less = first_least x xs h c.0 below in
    let same = there xs c.0 0 k below in
    let is = c.2 in
    omega (arith, less, same, is)

also : (x : ℕ) (xs : List ℕ) (k : ℕ) → Contains xs k → Contains (x ∷ xs) k
also x xs k c = let below = c.1 in (suc c.0, omega (arith, below), c.2)

same_lists : (xs ys : List ℕ) → Ascends xs → Ascends ys → ((k : ℕ) → Contains xs k ↔ Contains ys k) → xs ≡ ys
same_lists [] [] a b h = refl
same_lists [] (y ∷ ys) a b h = let c = (h y).1 (0, omega arith, refl) in let below = c.1 in absurd (omega (arith, below))
same_lists (x ∷ xs) [] a b h = let c = (h x).0 (0, omega arith, refl) in let below = c.1 in absurd (omega (arith, below))
same_lists (x ∷ xs) (y ∷ ys) a b h =
    let low = least_of y ys b x ((h x).0 (0, omega arith, refl)) in
    let high = least_of x xs a y ((h y).1 (0, omega arith, refl)) in
    let first : x ≡ y = omega (arith, low, high) in
    let rest : xs ≡ ys = same_lists xs ys (tail_ascends x xs a) (tail_ascends y ys b) (λ k. (
      λ c. let less = above_first x xs a k c in behind_first y ys k (omega (arith, less, first)) ((h k).0 (also x xs k c)),
      λ c. let less = above_first y ys b k c in behind_first x xs k (omega (arith, less, first)) ((h k).1 (also y ys k c)),
    )) in
    rw (first, rest) refl

same_multiples : (t : Ratio) (Passes : Ratio → Type 0) (xs ys : List ℕ) → AreMultiples t Passes xs → AreMultiples t Passes ys → xs ≡ ys
same_multiples t Passes xs ys a b =
    same_lists xs ys a.ascending b.ascending (λ k. (λ c. (b.all k).1 ((a.all k).0 c), λ c. (a.all k).1 ((b.all k).0 c)))

pub one_listing : (t : Ratio) (last : Option Ratio) (time : Ratio) (next : Option Ratio) (tokens : List (List ℕ)) (rows others : List Row)
    → StandAtMultiples t last time next tokens rows → StandAtMultiples t last time next tokens others → rows ≡ others
one_listing t last time next tokens rows others a b =
    let before = same_multiples t _ a.before b.before a.earlier b.earlier in
    let after = same_multiples t _ a.after b.after a.later b.later in
    let own : a.own ≡ b.own = by_bool (is_multiple time t)
    (λ w. let m = (multiple_test time t).0 w in a.stays m ∙ sym (b.stays m))
    (λ w. let no = λ (m : IsMultiple time t). off w ((multiple_test time t).1 m) in a.goes no ∙ sym (b.goes no)) in
    a.whole ∙ ap (λ xs. nulls_at tokens xs ++ (a.own ++ nulls_at tokens a.after)) before
    ∙ ap (λ xs. nulls_at tokens b.before ++ (xs ++ nulls_at tokens a.after)) own
    ∙ ap (λ xs. nulls_at tokens b.before ++ (b.own ++ nulls_at tokens xs)) after
    ∙ sym b.whole
  where
    off : {b : Bool} → b ≡ false → b ≡ true → ⊥
    off e f = cc
