-- The spine that goes on from a place.
use Rattle.std.proofs.Common.{◌≡◌, ◌∙◌, refl, sym, ap, ℕ, zero, suc, ◌+◌, ◌<◌, Bool, true, false}
use Rattle.std.proofs.Common.{◌&&◌, ◌≢◌, ◌≤◌, ◌++◌, ◌∷◌, [], inl, inr, List, length, drop, get_or, cond, Option, None, Some, arith}
use Rattle.std.proofs.Common.{add-one, drop-cons}
use Rattle.std.specs.Prelude.{nat_le, nat_lt, ◌==◌}
use Rattle.std.specs.List.{position, position_from}
use Rattle.std.proofs.lemmas.Bool.{cases_lt, eqb-false, eqb-true, le-leb, le-ltb, leb-true, lt-ltb}
use Rattle.std.proofs.lemmas.Bool.Decides.{nat_tests}
use Rattle.std.proofs.lemmas.Iterator.Adapters.{position_from-zero}
use Rattle.hum_score.specs.declared.records.SpinedKind.TheVariants.{Local, Interpretation, Values}
use Rattle.hum_score.specs.Row.{Row, Comment, Spined}
use Rattle.hum_score.specs.Spines.{Path, after, moves, same_upto, width}
use Rattle.hum_path.proofs.Steady.{same_upto_length}
use Rattle.hum_path.proofs.Widths.{moves_width}
use Rattle.hum_path.specs.Chains.{goes_on}

-- from the last move to the first
pub position_step : {X : Type 0} (p : X → Bool) (xs : List X) (i : ℕ) (d : X) → i < length xs
    → position_from p i (drop i xs)
    ≡ cond (p (get_or xs i d)) (Some i) (position_from p (i + 1) (drop (i + 1) xs))
position_step p xs i d h = rw (drop-cons xs i d h, add-one) refl

pub position_all : {X : Type 0} (p : X → Bool) (xs : List X)
    → position_from p 0 xs ≡ position p xs
position_all p xs = sym (position_from-zero p xs)

-- where each goes on at its place
same_from : (c i n : ℕ)
    → position_from (goes_on c) i (same_upto i n) ≡ cond (nat_le i c && nat_lt c (i + n)) (Some c) None
same_from c i zero = by (nat_le i c) refl
  where
    by : (b : Bool) → nat_le i c ≡ b
        → ◌≡◌ {A = Option ℕ} None (cond (b && nat_lt c (i + 0)) (Some c) None)
    by true e = let no : nat_lt c (i + 0) ≡ false = grind (arith, nat_tests, e) in rw no refl
    by false e = refl
same_from c i (suc n) = by (same_from c (i + 1) n) (i == c) refl
  where
    by : position_from (goes_on c) (i + 1) (same_upto (i + 1) n)
        ≡ cond (nat_le (i + 1) c && nat_lt c (i + 1 + n)) (Some c) None
        → (b : Bool) → (i == c) ≡ b
        → cond b (Some i) (position_from (goes_on c) (i + 1) (same_upto (i + 1) n))
        ≡ cond (nat_le i c && nat_lt c (i + suc n)) (Some c) None
    by more true e =
        let a : nat_le i c ≡ true = grind (arith, nat_tests, e) in
        let b : nat_lt c (i + suc n) ≡ true = grind (arith, nat_tests, e) in
        let same : i ≡ c = grind (arith, nat_tests, e) in
        rw (a, b) (ap (λ (k : ℕ). Some k) same)
    by more false e =
        let a : nat_le (i + 1) c ≡ nat_le i c = grind (arith, nat_tests, e) in
        let b : i + 1 + n ≡ i + suc n = omega arith in
        more ∙ rw (a, b) refl

pub same_place : (c n : ℕ)
    → cond (nat_lt c n) (Some c) None ≡ position (goes_on c) (same_upto 0 n)
same_place c n =
    let a : nat_le 0 c ≡ true = grind (arith, nat_tests) in
    let b : 0 + n ≡ n = omega arith in
    sym (position_from-zero (goes_on c) (same_upto 0 n) ∙ (same_from c 0 n ∙ rw (a, b) refl))

-- as many moves as spines after
pub moves_after : (path : Path) (row : Row) → length (moves path row) ≡ width (after path row)
moves_after path (Comment text) = same_upto_length 0 (width path)
moves_after path (Spined Interpretation tokens) = moves_width path tokens
moves_after path (Spined Local tokens) = same_upto_length 0 (width path)
moves_after path (Spined Values tokens) = same_upto_length 0 (width path)

-- the columns from the first to the last are marked, those before place j as yet
pub marked_none : {X : Type 0} (first last c : ℕ) (x y : X)
    → y ≡ cond (nat_le first c && (nat_lt c first && nat_le c last)) x y
marked_none first last c x y = by (nat_le first c) refl
  where
    by : (b : Bool) → nat_le first c ≡ b → y ≡ cond (b && (nat_lt c first && nat_le c last)) x y
    by true e = rw (le-ltb c first (leb-true first c e)) refl
    by false e = refl

pub marked_more : {X : Type 0} (first last j c : ℕ) (x y : X) → first ≤ j → j ≤ last
    → cond (j == c) x (cond (nat_le first c && (nat_lt c j && nat_le c last)) x y)
    ≡ cond (nat_le first c && (nat_lt c (j + 1) && nat_le c last)) x y
marked_more first last j c x y low high = by (j == c) refl
  where
    next : j ≢ c → nat_lt c j ≡ nat_lt c (j + 1)
    next other = elim (cases_lt c j) [
      | inl l ↦ lt-ltb c j l ∙ sym (lt-ltb c (j + 1) (omega (arith, l)))
      | inr g ↦ le-ltb c j g ∙ sym (le-ltb c (j + 1) (omega (arith, g, other)))
    ]

    by : (b : Bool) → (j == c) ≡ b
        → cond b x (cond (nat_le first c && (nat_lt c j && nat_le c last)) x y)
        ≡ cond (nat_le first c && (nat_lt c (j + 1) && nat_le c last)) x y
    by true e =
        let same = eqb-true j c e in
        rw (
          le-leb first c (omega (arith, same, low)),
          lt-ltb c (j + 1) (omega (arith, same)),
          le-leb c last (omega (arith, same, high)),
        ) refl
    by false e = ap (λ (b : Bool). cond (nat_le first c && (b && nat_le c last)) x y)
        (next (eqb-false j c e))

pub marked_all : {X : Type 0} (first last j c : ℕ) (x y : X) → last < j
    → cond (nat_le first c && (nat_lt c j && nat_le c last)) x y
    ≡ cond (nat_le first c && nat_le c last) x y
marked_all first last j c x y over = by (nat_le c last) refl
  where
    none : (a b : Bool) → cond (a && (b && false)) x y ≡ cond (a && false) x y
    none true true = refl
    none true false = refl
    none false b = refl

    by : (b : Bool) → nat_le c last ≡ b
        → cond (nat_le first c && (nat_lt c j && b)) x y ≡ cond (nat_le first c && b) x y
    by true e =
        let low = leb-true c last e in
        rw (lt-ltb c j (omega (arith, low, over))) refl
    by false e = none (nat_le first c) (nat_lt c j)

-- what stands beyond the last is as good as nothing
pub get_more_none : {X : Type 0} (xs : List (Option X)) (c : ℕ)
    → get_or (xs ++ None ∷ []) c None ≡ get_or xs c None
get_more_none [] zero = refl
get_more_none [] (suc c) = refl
get_more_none (x ∷ xs) zero = refl
get_more_none (x ∷ xs) (suc c) = get_more_none xs c
