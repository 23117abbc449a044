-- Two lists, side by side.
use Rattle.std.proofs.lemmas.Bool.Decides.{nat_tests}
use Rattle.std.proofs.lemmas.Grind.{common_steps}
use Rattle.std.proofs.Common.{◌≡◌, ◌∙◌, ℕ, zero, suc, ◌+◌, ◌<◌, ◌≤◌, List, [], ◌∷◌, ◌++◌, length, take, drop, get_or, refl, sym, ap, arith, add-one}
use Rattle.std.specs.Prelude.{slice_set}
use Rattle.hum_timebase.specs.Pairs.{over}

pub over_none : {A B : Type 0} (f : A → B → B) (xs : List A) → over f xs [] ≡ []
over_none f [] = refl
over_none f (x ∷ xs) = refl

-- one place more of the second list
over_more : {A B : Type 0} (f : A → B → B) (xs : List A) (ys : List B) (j : ℕ) (a : A) (b : B) → j < length xs
    → take (suc j) (slice_set ys j (f (get_or xs j a) (get_or ys j b)))
    ++ over f (drop (suc j) xs) (drop (suc j) (slice_set ys j (f (get_or xs j a) (get_or ys j b))))
    ≡ take j ys ++ over f (drop j xs) (drop j ys)
over_more f [] ys j a b p = absurd (omega arith)
over_more f (x ∷ xs) [] zero a b p = over_none f xs
over_more f (x ∷ xs) [] (suc j) a b p = over_none f (drop (suc j) xs) ∙ sym (over_none f (drop j xs))
over_more f (x ∷ xs) (y ∷ ys) zero a b p = refl
over_more f (x ∷ xs) (y ∷ ys) (suc j) a b p = ap (λ zs. y ∷ zs) (over_more f xs ys j a b (omega arith))

pub over_next : {A B : Type 0} (f : A → B → B) (xs : List A) (ys zs all : List B) (j : ℕ) (x d : A) (made none : B) → j < length xs
    → x ≡ get_or xs j d → made ≡ f x (get_or ys j none) → zs ≡ slice_set ys j made
    → take j ys ++ over f (drop j xs) (drop j ys) ≡ all
    → take (j + 1) zs ++ over f (drop (j + 1) xs) (drop (j + 1) zs) ≡ all
over_next = grind (arith, nat_tests, get_or, add-one, over_more)

pub whole : {B : Type 0} (k : ℕ) (zs : List B) → take k zs ++ drop k zs ≡ zs
whole = grind (arith, common_steps)

-- all places were seen
pub over_all : {A B : Type 0} (f : A → B → B) (xs : List A) (ys all : List B) (j : ℕ) → length xs ≤ j
    → take j ys ++ over f (drop j xs) (drop j ys) ≡ all → ys ≡ all
over_all = grind (arith, common_steps)
