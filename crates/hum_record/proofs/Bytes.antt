-- A fact of each byte, by computation.
use Rattle.std.proofs.lemmas.Bool.Decides.{nat_tests}
use Rattle.std.proofs.Common.{◌≡◌, ℕ, zero, suc, ◌<◌, Bool, true, false, not, ◌&&◌, T, arith}

abbrev pub upto : (ℕ → Bool) → ℕ → Bool
upto p zero = true
upto p (suc n) = p n && upto p n

both : (a b : Bool) → T (a && b) → T a × T b
both = grind (arith, nat_tests)

pub upto_sound : (p : ℕ → Bool) (n : ℕ) → T (upto p n) → (i : ℕ) → i < n → T (p i)
upto_sound p zero h i lt = absurd (omega (arith, lt))
upto_sound p (suc n) h i lt = grind (arith, nat_tests, upto_sound p n (both (p n) (upto p n) h).1 i)

-- two tests that agree
abbrev pub same : Bool → Bool → Bool
same true b = b
same false b = not b

pub same_is : (a b : Bool) → T (same a b) → a ≡ b
same_is = grind (arith, nat_tests)
