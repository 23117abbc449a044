-- Joins under different exclusive interpretations, place by place.
use Rattle.std.proofs.Common.{◌≡◌, ℕ, suc, ◌+◌, ◌<◌, false, List, ◌∷◌, length, drop, arith, add-one}
use Rattle.std.proofs.lemmas.Bool.Decides.{nat_tests}
use Rattle.std.specs.declared.vec.Vec.{Vec}
use Rattle.std.specs.declared.alloc.Global.{Global}
use Rattle.hum_score.specs.declared.spines.Sign.{Sign}
use Rattle.hum_score.specs.Texts.{texts}
use Rattle.hum_score.specs.Rules.{mixes_join, has_mixed_join}

pub mixes_short : (names : List (List ℕ)) (signs : List Sign) → length signs < 2 → false ≡ mixes_join names signs
mixes_short = grind (arith, nat_tests)

-- one place further
pub mixed_more : (names : List (Vec ℕ Global)) (signs : List Sign) (j : ℕ) → length names ≡ length signs
    → j < length signs → mixes_join (texts (drop j names)) (drop j signs) ≡ false
    → has_mixed_join (texts (drop (j + 1) names)) (drop (j + 1) signs) ≡ has_mixed_join (texts (drop j names)) (drop j signs)
mixed_more names signs j same within h = rw add-one (further names signs j same within h)
  where
    further : (names : List (Vec ℕ Global)) (signs : List Sign) (j : ℕ) → length names ≡ length signs
        → j < length signs → mixes_join (texts (drop j names)) (drop j signs) ≡ false
        → has_mixed_join (texts (drop (suc j) names)) (drop (suc j) signs) ≡ has_mixed_join (texts (drop j names)) (drop j signs)
    further (n ∷ ns) (s ∷ ss) (suc j) same within h = further ns ss j (omega arith) (omega arith) h
    further names signs j h k w = grind (arith, nat_tests)
