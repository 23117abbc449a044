-- Numbers with a sign.
use Rattle.std.proofs.lemmas.Bool.Decides.{nat_tests}
use Rattle.std.proofs.Common.{arith}
use Rattle.std.proofs.Common.{◌≡◌, ◌<◌, ◌≤◌, ◌^◌, ◌==◌, ap, ℕ, true, false, List, [], ◌∷◌, Some}
use Rattle.std.specs.Prelude.{ℤ, pos, nat_abs}
use Rattle.std.specs.Option.{option_map}
use Rattle.std.specs.Str.{all_ascii_digits}
use Rattle.std.proofs.lemmas.Bool.{eqb-true}
use Rattle.hum_score.proofs.Cases.{by_bool}
use Rattle.hum_options.specs.Numbers.{IsSigned, plain, plus, minus, negated, number_of, signed_of}
use Rattle.hum_options.proofs.Choices.{mapped}
use Rattle.hum_options.proofs.Digits.{number_is, number_alone, number_digits}

pub signed_is : {most : ℕ} (text : List ℕ) {z : ℤ} → most < 2 ^ 64 → signed_of most text ≡ Some z → IsSigned most text z
signed_is [] small e = cc
signed_is {most} (sign ∷ text) {z} small e =
    by_bool (sign == 43) with_plus (λ other. by_bool (sign == 45) (with_minus other) (without other))
  where
    with_plus : (sign == 43) ≡ true → IsSigned most (sign ∷ text) z
    with_plus w =
        let found = mapped pos (number_of most text) z (rw w at e) in
        rw (eqb-true sign 43 w, ← found.2) (plus (number_is small found.1))

    with_minus : (sign == 43) ≡ false → (sign == 45) ≡ true → IsSigned most (sign ∷ text) z
    with_minus other w =
        let found = mapped negated (number_of most text) z (rw (other, w) at e) in
        rw (eqb-true sign 45 w, ← found.2) (minus (number_is small found.1))

    without : (sign == 43) ≡ false → (sign == 45) ≡ false → IsSigned most (sign ∷ text) z
    without other none =
        let found = mapped pos (number_of most (sign ∷ text)) z (rw (other, none) at e) in
        rw (← found.2) (plain (number_is small found.1))

plain_alone : (most : ℕ) (text : List ℕ) (n : ℕ) → all_ascii_digits text ≡ true → number_of most text ≡ Some n
    → signed_of most text ≡ Some (pos n)
plain_alone = grind (arith, nat_tests)

pub signed_alone : {most : ℕ} {text : List ℕ} {z : ℤ} → most < 2 ^ 64 → IsSigned most text z
    → signed_of most text ≡ Some z
signed_alone {most} small (plain {text} {n} h) = plain_alone most text n (number_digits small h) (number_alone small h)
signed_alone small (plus h) = ap (option_map pos) (number_alone small h)
signed_alone small (minus h) = ap (option_map negated) (number_alone small h)

-- its absolute value is at most so great
pub signed_within : {most : ℕ} {text : List ℕ} {z : ℤ} → IsSigned most text z → nat_abs z ≤ most
signed_within = grind (arith, nat_tests)
