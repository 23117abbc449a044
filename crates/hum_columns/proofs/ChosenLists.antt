-- What is chosen of a list.
use Rattle.std.proofs.lemmas.Grind.{common_steps}
use Rattle.std.proofs.lemmas.Bool.Decides.{nat_tests}
use Rattle.std.proofs.Common.{◌≡◌, ap, suc, ℕ, ◌<◌, ◌≤◌, Bool, true, false, not, List, ◌∷◌, length, map, drop, get_or}
use Rattle.std.proofs.Common.{arith, cond}
use Rattle.std.specs.List.{list_any, AllByRecursion}
use Rattle.std.proofs.lemmas.Bool.{or_parts, or_from}
use Rattle.hum_score.specs.Sign.{sign_of, is_exclusive}
use Rattle.hum_path.specs.Onward.{renamed_each}
use Rattle.hum_score.specs.Row.{chosen}

pub chosen_length : {X Y : Type 0} (fs : List Bool) (xs : List X) (ys : List Y) → length xs ≡ length ys
    → length (chosen fs xs) ≡ length (chosen fs ys)
chosen_length (true ∷ fs) (x ∷ xs) (y ∷ ys) h = ap suc (chosen_length fs xs ys (omega (arith, h)))
chosen_length (false ∷ fs) (x ∷ xs) (y ∷ ys) h = chosen_length fs xs ys (omega (arith, h))
chosen_length fs xs ys h = grind (arith, nat_tests)

pub chosen_fewer : {X : Type 0} (fs : List Bool) (xs : List X) → length (chosen fs xs) ≤ length xs
chosen_fewer (true ∷ fs) (x ∷ xs) = let ih = chosen_fewer fs xs in omega (arith, ih)
chosen_fewer (false ∷ fs) (x ∷ xs) = let ih = chosen_fewer fs xs in omega (arith, ih)
chosen_fewer fs xs = grind (arith, nat_tests)

-- what none of a list is, none of what is chosen is
pub chosen_none : {X : Type 0} (test : X → Bool) (fs : List Bool) (xs : List X) → list_any test xs ≡ false
    → list_any test (chosen fs xs) ≡ false
chosen_none test (true ∷ fs) (x ∷ xs) h =
    let both = or_parts (test x) (list_any test xs) h in
    or_from (test x) (list_any test (chosen fs xs)) both.0 (chosen_none test fs xs both.1)
chosen_none test (false ∷ fs) (x ∷ xs) h = chosen_none test fs xs (or_parts (test x) (list_any test xs) h).1
chosen_none test fs xs h = grind (arith, nat_tests)

pub chosen_map : {X Y : Type 0} (f : X → Y) (fs : List Bool) (xs : List X) → map f (chosen fs xs) ≡ chosen fs (map f xs)
chosen_map {X} {Y} f (true ∷ fs) (x ∷ xs) = ap (λ (ys : List Y). f x ∷ ys) (chosen_map f fs xs)
chosen_map f (false ∷ fs) (x ∷ xs) = chosen_map f fs xs
chosen_map f fs xs = grind (arith, nat_tests)

pub chosen_each : (fs : List Bool) (ns ts : List (List ℕ)) → length ns ≡ length ts
    → renamed_each (chosen fs ns) (chosen fs ts) ≡ chosen fs (renamed_each ns ts)
chosen_each (true ∷ fs) (n ∷ ns) (t ∷ ts) h =
    ap (λ (xs : List (List ℕ)). cond (is_exclusive (sign_of t)) t n ∷ xs) (chosen_each fs ns ts (omega (arith, h)))
chosen_each (false ∷ fs) (n ∷ ns) (t ∷ ts) h = chosen_each fs ns ts (omega (arith, h))
chosen_each fs ns ts h = grind (arith, nat_tests)

pub chosen_all : {X : Type 0} (P : X → Type 0) (fs : List Bool) (xs : List X) → AllByRecursion P xs → AllByRecursion P (chosen fs xs)
chosen_all P (true ∷ fs) (x ∷ xs) h = (h.0, chosen_all P fs xs h.1)
chosen_all P (false ∷ fs) (x ∷ xs) h = chosen_all P fs xs h.1
chosen_all P fs xs h = grind (arith, nat_tests)

-- from a place on
pub chosen_at : {X : Type 0} (fs : List Bool) (xs : List X) (j : ℕ) (d : X) → j < length fs → length fs ≡ length xs
    → chosen (drop j fs) (drop j xs)
    ≡ cond (get_or fs j false) (get_or xs j d ∷ chosen (drop (suc j) fs) (drop (suc j) xs)) (chosen (drop (suc j) fs) (drop (suc j) xs))
chosen_at (f ∷ fs) (x ∷ xs) (suc j) d h e = chosen_at fs xs j d (omega (arith, h)) (omega (arith, e))
chosen_at fs xs j d h k = grind (arith, nat_tests)

-- as many flags of the others
pub not_length : (fs : List Bool) → length (map not fs) ≡ length fs
not_length = grind (arith, common_steps)
