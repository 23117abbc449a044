-- What is chosen is so by its origin.
use Rattle.std.proofs.lemmas.Bool.Decides.{nat_tests}
use Rattle.std.proofs.Common.{◌≡◌, ℕ, suc, Bool, List, ◌∷◌, map, Some, slice_get, get_or, arith}
use Rattle.hum_score.specs.Row.{Row}
use Rattle.hum_score.specs.Score.{IsOpen}
use Rattle.hum_path.specs.Origins.{origin}
use Rattle.hum_path.proofs.Climbing.{climbing}
use Rattle.hum_columns.specs.Chosen.{AreChosenByOrigin}

mapped : (f : ℕ → Bool) (xs : List ℕ) (j x : ℕ) (d : Bool) → slice_get xs j ≡ Some x → get_or (map f xs) j d ≡ f x
mapped f (z ∷ zs) (suc j) x d e = mapped f zs j x d e
mapped f xs j x d h = grind (arith, nat_tests)

pub chosen_by_origin : (choose : List (List ℕ) → List Bool) (past : List Row) → IsOpen past → AreChosenByOrigin choose past
chosen_by_origin = grind (arith, nat_tests, climbing, mapped, get_or)
