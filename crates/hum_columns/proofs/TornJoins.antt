-- Torn joins, by the left neighbour and of the other columns.
use Rattle.std.proofs.lemmas.Bool.Decides.{nat_tests}
use Rattle.std.proofs.Common.{◌≡◌, refl, ap, Bool, false, not, ◌&&◌, ◌||◌, List, [], ◌∷◌, map, arith}
use Rattle.hum_score.specs.declared.spines.Sign.{Sign}
use Rattle.hum_score.specs.declared.spines.Sign.TheVariants.{Plain}
use Rattle.hum_score.specs.Sign.{is_join}
use Rattle.hum_columns.specs.Chosen.{differ, is_torn}

-- whether joins are torn, by the left neighbour
abbrev pub torn_after : Bool → Bool → List Bool → List Sign → Bool
torn_after joins left [] signs = false
torn_after joins left (f ∷ flags) [] = false
torn_after joins left (f ∷ flags) (s ∷ signs) = (joins && (is_join s && differ left f)) || torn_after (is_join s) f flags signs

torn_next : (f : Bool) (s : Sign) (flags : List Bool) (signs : List Sign) → torn_after (is_join s) f flags signs ≡ is_torn (f ∷ flags) (s ∷ signs)
torn_next f s (g ∷ flags) (t ∷ signs) = ap (λ b. (is_join s && (is_join t && differ f g)) || b) (torn_next g t flags signs)
torn_next f s flags signs = grind (arith, nat_tests)

pub torn_first : (flags : List Bool) (signs : List Sign) → torn_after false false flags signs ≡ is_torn flags signs
torn_first [] signs = refl
torn_first (f ∷ []) [] = refl
torn_first (f ∷ g ∷ flags) [] = refl
torn_first (f ∷ flags) (s ∷ signs) = torn_next f s flags signs

-- a token that isn't of a join stands in front
pub torn_start : (f : Bool) (fs : List Bool) (ss : List Sign) → is_torn fs ss ≡ false → is_torn (f ∷ fs) (Plain ∷ ss) ≡ false
torn_start = grind (arith, nat_tests)

-- the others are torn where the chosen ones are
differ_not : (a b : Bool) → differ (not a) (not b) ≡ differ a b
differ_not = grind (arith, nat_tests)

pub torn_not : (fs : List Bool) (ss : List Sign) → is_torn (map not fs) ss ≡ is_torn fs ss
torn_not (f ∷ g ∷ fs) (s ∷ t ∷ ss) = let rest = torn_not (g ∷ fs) (t ∷ ss) in rw (differ_not f g, rest) refl
torn_not fs ss = grind (arith, nat_tests)
