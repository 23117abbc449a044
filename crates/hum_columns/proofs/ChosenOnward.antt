-- What is chosen of what is carried on is what is carried on of what is chosen.
use Rattle.std.proofs.lemmas.Bool.Decides.{nat_tests}
use Rattle.std.proofs.Common.{◌≡◌, refl, Bool, not, List, [], ◌∷◌, length, map, arith}
use Rattle.hum_score.specs.declared.spines.Sign.{Sign}
use Rattle.hum_path.specs.Onward.{onward}
use Rattle.hum_score.specs.Row.{chosen}
use Rattle.hum_columns.specs.Chosen.{others}

-- A column's children are chosen with it.
pub chosen_onward : {X : Type 0} (added : X → X) (fs begins : List Bool) (signs : List Sign) (xs : List X) → length begins ≡ length signs
    → length signs ≡ length xs
    → chosen (onward (λ f. f) begins signs fs) (onward added begins signs xs)
    ≡ onward added (chosen fs begins) (chosen fs signs) (chosen fs xs)
chosen_onward added [] [] ss xs a b = refl
chosen_onward added [] (g ∷ bs) [] xs a b = absurd (omega (arith, a))
chosen_onward added [] (g ∷ bs) (s ∷ ss) xs a b = refl
chosen_onward added (f ∷ fs) [] ss xs a b = refl
chosen_onward added (f ∷ fs) (g ∷ bs) [] xs a b = absurd (omega (arith, a))
chosen_onward added (f ∷ fs) (g ∷ bs) (s ∷ ss) [] a b = absurd (omega (arith, b))
chosen_onward {X} added (f ∷ fs) (g ∷ bs) (s ∷ ss) (x ∷ xs) a b =
    grind (arith, nat_tests, chosen_onward added fs bs ss xs (omega (arith, a)) (omega (arith, b)))

-- What is carried on of flags doesn't depend on which of two they are.
pub not_onward : (begins : List Bool) (signs : List Sign) (fs : List Bool)
    → map not (onward (λ f. f) begins signs fs) ≡ onward (λ f. f) begins signs (map not fs)
not_onward (g ∷ bs) (s ∷ ss) (f ∷ fs) = grind (arith, nat_tests, not_onward bs ss fs)
not_onward begins signs fs = grind (arith, nat_tests)

pub others_onward : {X : Type 0} (added : X → X) (fs begins : List Bool) (signs : List Sign) (xs : List X) → length begins ≡ length signs
    → length signs ≡ length xs
    → others (onward (λ f. f) begins signs fs) (onward added begins signs xs)
    ≡ onward added (others fs begins) (others fs signs) (others fs xs)
others_onward = grind (arith, nat_tests, not_onward, chosen_onward)
