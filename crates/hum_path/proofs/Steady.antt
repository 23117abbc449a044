-- Spines that stay where they are.
use Rattle.std.proofs.lemmas.Bool.Decides.{nat_tests}
use Rattle.std.proofs.Common.{◌≡◌, ◌∙◌, ℕ, zero, suc, ◌+◌, ◌<◌, List, [], ◌∷◌, length, refl, ap}
use Rattle.std.proofs.Common.{arith, Some, slice_get, ◌++◌, ◌-◌, append_assoc}
use Rattle.hum_score.specs.declared.spines.Move.{Move}
use Rattle.hum_score.specs.declared.spines.Move.TheVariants.{Same}
use Rattle.hum_score.specs.Spines.{same_upto}

pub same_upto_length : (j n : ℕ) → length (same_upto j n) ≡ n
same_upto_length j zero = refl
same_upto_length j (suc n) = ap suc (same_upto_length (j + 1) n)

pub get-same_upto : (j n i : ℕ) → i < n → slice_get (same_upto j n) i ≡ Some (Same (j + i))
get-same_upto j (suc n) (suc i) h = get-same_upto (j + 1) n i (omega arith) ∙ ap (λ k. Some (Same k)) (omega arith)
get-same_upto j n i h = grind (arith, nat_tests)

pub get-same_upto_first : (n i : ℕ) → i < n → slice_get (same_upto 0 n) i ≡ Some (Same i)
get-same_upto_first n i h = get-same_upto 0 n i h ∙ ap (λ k. Some (Same k)) (omega arith)

pub same_more : (moves : List Move) (j n : ℕ) → j < n
    → (moves ++ Same j ∷ []) ++ same_upto (j + 1) (n - (j + 1)) ≡ moves ++ same_upto j (n - j)
same_more moves j n within = let e : n - j ≡ suc (n - (j + 1)) = omega arith in rw (append_assoc, e) refl
