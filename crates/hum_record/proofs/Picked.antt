-- The marks that are set, from the first that isn't on.
use Rattle.std.proofs.lemmas.Grind.{common_steps}
use Rattle.std.proofs.Common.{◌≡◌, ℕ, ◌+◌, ◌<◌, ◌≤◌, Bool, true, false, List, [], ◌∷◌, ◌++◌, length, drop, get_or}
use Rattle.std.proofs.Common.{arith}
use Rattle.hum_record.specs.Selecting.{marked_from, front_of, moved_of}

module _ (marks : List Bool) (j : ℕ) (done all : List ℕ) (within : j < length marks) (whole : done ++ marked_from j (drop j marks) ≡ all) where
  pub picks : get_or marks j false ≡ true → (done ++ j ∷ []) ++ marked_from (j + 1) (drop (j + 1) marks) ≡ all
  picks = grind (arith, common_steps)

  pub passes : get_or marks j false ≡ false → done ++ marked_from (j + 1) (drop (j + 1) marks) ≡ all
  passes = grind (arith, common_steps)

pub picked : (marks : List Bool) (j front : ℕ) (done : List ℕ) → length marks ≤ j → front ≡ front_of marks
    → done ++ marked_from j (drop j marks) ≡ marked_from front (drop front marks) → done ≡ moved_of marks
picked = grind (arith, common_steps)
