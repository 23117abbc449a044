-- The path rules of one source's record stay as they are between null tokens of other sources.
use Rattle.std.proofs.lemmas.Bool.Decides.{nat_tests}
use Rattle.std.proofs.Common.{◌≡◌, ◌∙◌, refl, ap, ℕ, zero, suc, ◌+◌, Bool}
use Rattle.std.proofs.Common.{false, List, [], ◌∷◌, ◌++◌, length, arith}
use Rattle.std.proofs.Common.{replicate}
use Rattle.std.specs.List.{list_any}
use Rattle.hum_score.specs.declared.spines.Sign.{Sign}
use Rattle.hum_score.specs.declared.spines.Sign.TheVariants.{Plain}
use Rattle.hum_score.specs.Sign.{is_join}
use Rattle.hum_score.specs.Rules.{has_lone_join, first_is}
use Rattle.hum_score.specs.Rules.{has_mixed_join}
use Rattle.hum_score.specs.Spines.{exchanges}

abbrev pub plains : ℕ → List Sign
plains n = replicate n Plain

-- null tokens on the left
pub lone_left : (n : ℕ) (signs : List Sign)
    → has_lone_join false (plains n ++ signs) ≡ has_lone_join false signs
lone_left zero signs = refl
lone_left (suc n) signs = lone_left n signs

pub exchanges_left : (n j : ℕ) (signs : List Sign)
    → exchanges j (plains n ++ signs) ≡ exchanges (j + n) signs
exchanges_left zero j signs = ap (λ (k : ℕ). exchanges k signs) (omega arith)
exchanges_left (suc n) j signs = exchanges_left n (j + 1) signs ∙ ap (λ (k : ℕ). exchanges k signs) (omega arith)

pub mixed_left : (others names : List (List ℕ)) (signs : List Sign)
    → has_mixed_join (others ++ names)
    (plains (length others) ++ signs) ≡ has_mixed_join names signs
mixed_left (x ∷ y ∷ others) names signs = mixed_left (y ∷ others) names signs
mixed_left others names signs = grind (arith, nat_tests)

pub first_right : (signs : List Sign) (m : ℕ)
    → first_is is_join (signs ++ plains m) ≡ first_is is_join signs
first_right = grind (arith, nat_tests)

pub lone_plains : (b : Bool) (m : ℕ) → has_lone_join b (plains m) ≡ false
lone_plains b zero = refl
lone_plains b (suc m) = lone_plains false m

pub lone_right : (b : Bool) (signs : List Sign) (m : ℕ)
    → has_lone_join b (signs ++ plains m) ≡ has_lone_join b signs
lone_right b [] m = lone_plains b m
lone_right b (s ∷ signs) m = rw (first_right signs m, lone_right (is_join s) signs m) refl

pub exchanges_plains : (j m : ℕ) → exchanges j (plains m) ≡ []
exchanges_plains j zero = refl
exchanges_plains j (suc m) = exchanges_plains (j + 1) m

pub exchanges_right : (j : ℕ) (signs : List Sign) (m : ℕ)
    → exchanges j (signs ++ plains m) ≡ exchanges j signs
exchanges_right j [] m = exchanges_plains j m
exchanges_right j (s ∷ signs) m = rw (exchanges_right (j + 1) signs m) refl

pub any_plains : (test : Sign → Bool) (m : ℕ) → test Plain ≡ false
    → list_any test (plains m) ≡ false
any_plains test zero h = refl
any_plains test (suc m) h = rw (h, any_plains test m h) refl
