-- Subtokens, one after another.
use Rattle.std.proofs.Common.{arith}
use Rattle.std.proofs.lemmas.Bool.Decides.{nat_tests}
use Rattle.std.proofs.Common.{◌≡◌, ℕ, List, [], ◌∷◌, take, drop, Bool, refl}
use Rattle.std.specs.Prelude.{◌==◌}
use Rattle.hum_kern.specs.Runs.{run}
use Rattle.hum_timebase.specs.Notes.{subtokens}
use Rattle.hum_timebase.specs.Reading.{is_part, rest_parts}

cut_in : (b : ℕ) (bytes : List ℕ) (space : Bool) → (b == 32) ≡ space
    → subtokens bytes ≡ take (run is_part bytes) bytes ∷ rest_parts (drop (run is_part bytes) bytes)
    → subtokens (b ∷ bytes) ≡ take (run is_part (b ∷ bytes)) (b ∷ bytes) ∷ rest_parts (drop (run is_part (b ∷ bytes)) (b ∷ bytes))
cut_in = grind (arith, nat_tests)

pub cut-first : (bytes : List ℕ) → subtokens bytes ≡ take (run is_part bytes) bytes ∷ rest_parts (drop (run is_part bytes) bytes)
cut-first [] = refl
cut-first (b ∷ bytes) = cut_in b bytes (b == 32) refl (cut-first bytes)
