-- The spines that a record of one source exchanges it exchanges beside other sources too, some places further right.
use Rattle.std.proofs.lemmas.Bool.Decides.{nat_tests}
use Rattle.std.proofs.Common.{◌≡◌, refl, ℕ, ◌+◌}
use Rattle.std.proofs.Common.{List, [], ◌∷◌, arith, map}
use Rattle.hum_score.specs.declared.spines.Sign.{Sign}
use Rattle.hum_score.specs.Spines.{exchanges}

abbrev pub further : ℕ → List ℕ → List ℕ
further n = map (λ j. j + n)

pub exchanges_shift : (n j : ℕ) (signs : List Sign)
    → exchanges (j + n) signs ≡ further n (exchanges j signs)
exchanges_shift n j [] = refl
exchanges_shift n j (s ∷ signs) = grind (arith, nat_tests, exchanges_shift n (j + 1) signs)
