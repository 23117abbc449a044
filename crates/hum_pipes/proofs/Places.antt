-- The parts of the one plan, by their places.
use Rattle.std.proofs.Common.{◌≡◌, refl, ap, ℕ, zero, suc, pred, ◌+◌, ◌<◌, List, [], ◌∷◌, ◌++◌, map, length, arith}
use Rattle.hum_nodes.specs.Trees.{Part, part_at}
use Rattle.hum_pipes.specs.Piped.{moved_part}

pub front_part : (xs ys : List Part) (k : ℕ) → k < length xs → part_at (xs ++ ys) k ≡ part_at xs k
front_part [] ys k less = absurd (omega (arith, less))
front_part (x ∷ xs) ys zero less = refl
front_part (x ∷ xs) ys (suc k) less = front_part xs ys k (omega (arith, less))

pub behind_part : (xs ys : List Part) (k : ℕ) → part_at (xs ++ ys) (length xs + k) ≡ part_at ys k
behind_part [] ys k = ap (part_at ys) (omega arith)
behind_part (x ∷ xs) ys k =
    let next : suc (length xs) + k ≡ suc (length xs + k) = omega arith in rw next (behind_part xs ys k)

pub moved_at : (n : ℕ) (xs : List Part) (k : ℕ) → part_at (map (moved_part n) xs) k ≡ moved_part n (part_at xs k)
moved_at n [] k = refl
moved_at n (x ∷ xs) zero = refl
moved_at n (x ∷ xs) (suc k) = moved_at n xs k

pub some_first : (n : ℕ) → 0 < n → n ≡ suc (pred n)
some_first zero h = absurd (omega (arith, h))
some_first (suc n) h = refl
