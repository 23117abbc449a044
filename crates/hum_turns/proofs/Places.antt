-- The places of true entries.
use Rattle.std.proofs.lemmas.Grind.{common_steps}
use Rattle.std.proofs.lemmas.Bool.Decides.{nat_tests}
use Rattle.std.proofs.Common.{◌≡◌, ℕ, suc, ◌+◌, ◌<◌, Bool, true, false, ◌-◌, ◌≤◌}
use Rattle.std.proofs.Common.{take, drop, List, [], ◌∷◌, ◌++◌, length, get_or, refl, arith}
use Rattle.std.proofs.lemmas.List.{length-take-le}
use Rattle.std.proofs.lemmas.Bool.{cond-true}
use Rattle.hum_turns.specs.Orders.{some_true, first_true, last_true, chosen}
use Rattle.hum_turns.proofs.Picking.{chosen_is}

-- where some entry is true there is a place that has it
pub some_place : (bs : List Bool) → some_true bs ≡ true → (k : ℕ) × (get_or bs k false ≡ true)
some_place (false ∷ bs) h = let p = some_place bs h in (suc p.0, p.1)
some_place bs h = grind (arith, nat_tests)

pub some_chosen : (bs : List Bool) (pick : ℕ) → some_true bs ≡ true
    → get_or bs (chosen bs pick) false ≡ true
some_chosen bs pick h = let p = some_place bs h in chosen_is bs pick p.0 p.1

-- where no entry is true up to the end, the choice is the end
pub chosen_end : (bs : List Bool) (pick k : ℕ) → get_or bs pick false ≡ false
    → first_true bs ≡ k + first_true (drop k bs) → k ≡ length bs → chosen bs pick ≡ length bs
chosen_end = grind (arith, common_steps)

-- One entry more.

some_more : (bs : List Bool) → some_true (bs ++ true ∷ []) ≡ true
some_more (false ∷ bs) = some_more bs
some_more bs = grind (arith, nat_tests)

none_more : (bs : List Bool) → some_true (bs ++ false ∷ []) ≡ some_true bs
none_more (false ∷ bs) = none_more bs
none_more bs = grind (arith, nat_tests)

pub last_more : (bs : List Bool) → last_true (bs ++ true ∷ []) ≡ length bs
last_more [] = refl
last_more (b ∷ bs) = grind (arith, nat_tests, last_more bs, cond-true, some_more)

pub last_kept : (bs : List Bool) → last_true (bs ++ false ∷ []) ≡ last_true bs
last_kept [] = refl
last_kept (b ∷ bs) = grind (arith, nat_tests, last_kept bs, none_more)

-- the last entry of a front
module _ (bs : List Bool) (n : ℕ) (some : 0 < n) (within : n ≤ length bs) where
  front_more : take n bs ≡ take (n - 1) bs ++ get_or bs (n - 1) false ∷ []
  front_more = grind (arith, common_steps)

  pub last_at : get_or bs (n - 1) false ≡ true → last_true (take n bs) ≡ n - 1
  last_at = grind (arith, nat_tests, front_more, last_more, length-take-le)

  pub last_below : get_or bs (n - 1) false ≡ false
      → last_true (take n bs) ≡ last_true (take (n - 1) bs)
  last_below = grind (arith, nat_tests, front_more, last_kept)
