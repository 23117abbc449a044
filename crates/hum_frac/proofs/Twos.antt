-- Common divisors and the number 2.
use Rattle.std.proofs.Common.{◌≡◌, ℕ, zero, suc, ◌+◌, ◌-◌, ◌*◌, ◌/◌, ◌%◌, ◌^◌, ◌<◌, ◌≤◌, min, refl, sym, ap, ◌∙◌, arith, subst}
use mathlib.Core.Logic.{◌⊎◌, inl, inr}
use Rattle.std.specs.Int.{◌∣◌}
use Rattle.std.specs.Int.Count.{count_trailing_zeros, under, trailing_of_zero}
use Rattle.std.specs.Int.Bits.{bit_and}
use Rattle.std.proofs.lemmas.Nat.{trailing_le}
use Rattle.std.proofs.lemmas.Bool.Decides.{leb_tells, nat_tests}
use Rattle.std.proofs.lemmas.Nat.Gcd.{same_from_IsGcd}
use Rattle.std.proofs.lemmas.Nat.{shl-shr, pow-add, pow_pos, and_mask}
use native.Mathlib.Nat.{mul_assoc, add-mul, one-mul, div-mul_cancel, dvd-mul_left, mul-div-mul_right}
use Rattle.std.proofs.Math.Nat.{dvd-mul_left_of_dvd, mul_left_comm, div-div-eq-div-mul, pow-succ'}
use Rattle.hum_frac.specs.Gcd.{gcd}
use Rattle.hum_frac.specs.Ratio.{reduced}
use Rattle.hum_frac.proofs.Gcds.{gcd_is, gcd-scaled, gcd-step, gcd-zero}
use Rattle.hum_frac.proofs.Ratios.{same_parts}

pub halves : (n : ℕ) → (n ≡ 2 * (n / 2)) ⊎ (n ≡ 2 * (n / 2) + 1)
halves = grind (arith, nat_tests)

-- a factor of an odd number is odd
odd_factor : (q d x : ℕ) → q * d ≡ x → x % 2 ≡ 1 → d % 2 ≡ 1
odd_factor = grind (arith, nat_tests, halves, mul_left_comm)

-- an odd number that divides twice a number divides it
odd_divides : (r d m : ℕ) → r * d ≡ 2 * m → d % 2 ≡ 1 → d ∣ m
odd_divides r d m e odd = elim (halves r) [
  | inl even ↦
      let twice : r * d ≡ 2 * (r / 2 * d) = ap (λ (n : ℕ). n * d) even ∙ mul_assoc 2 (r / 2) d in
      let same : r / 2 * d ≡ m = omega (arith, e, twice) in
      subst (λ (n : ℕ). d ∣ n) same (dvd-mul_left d (r / 2))
  | inr more ↦
      let apart : r * d ≡ 2 * (r / 2) * d + d =
      ap (λ (n : ℕ). n * d) more ∙ add-mul (2 * (r / 2)) 1 d ∙ ap (λ (n : ℕ). 2 * (r / 2) * d + n) (one-mul d) in
      let twice : 2 * (r / 2) * d ≡ 2 * (r / 2 * d) = mul_assoc 2 (r / 2) d in
      absurd (omega (arith, e, odd, apart, twice))
]

divides : (x m d : ℕ) → x % 2 ≡ 1 → d ∣ x → d ∣ 2 * m → d ∣ m
divides x m d odd p q =
    odd_divides (2 * m / d) d m (div-mul_cancel d q) (odd_factor (x / d) d x (div-mul_cancel d p) odd)

odd_half : (x m : ℕ) → x % 2 ≡ 1 → gcd x (2 * m) ≡ gcd x m
odd_half x m odd =
    let own = gcd_is x m in
    same_from_IsGcd x (2 * m) (gcd x (2 * m)) (gcd x m) (gcd_is x (2 * m))
    (own.0, dvd-mul_left_of_dvd (gcd x m) own.1 2, λ d p q. own.2 d p (divides x m d odd p q))

-- a power of 2 has no part in what divides an odd number
pub odd_power : (k x m : ℕ) → x % 2 ≡ 1 → gcd x (m * 2 ^ k) ≡ gcd x m
odd_power zero x m odd = ap (gcd x) (omega arith)
odd_power (suc k) x m odd = grind (arith, nat_tests, odd_power k x m odd, pow-succ', mul_left_comm, odd_half)

-- ---- the zeros at the end of a number

-- so many of them can be taken off
abbrev Ends : ℕ → ℕ → Type 0
Ends n t = n / 2 ^ t * 2 ^ t ≡ n

none_off : (n : ℕ) → Ends n 0
none_off n = omega arith

one_more_off : (n t : ℕ) → n % 2 ≡ 0 → Ends (n / 2) t → Ends n (suc t)
one_more_off = grind (arith, nat_tests, div-div-eq-div-mul, mul_left_comm, pow-succ')

pub zeros_off : (k n : ℕ) → Ends n (count_trailing_zeros k n)
unfolding count_trailing_zeros
zeros_off zero n = none_off n
zeros_off (suc k) n = go (n % 2) refl (zeros_off k (n / 2))
  where
    go : (r : ℕ) → n % 2 ≡ r → Ends (n / 2) (count_trailing_zeros k (n / 2)) → Ends n (under r (count_trailing_zeros k (n / 2)))
    go = grind (arith, nat_tests, one_more_off, none_off)

-- and what is left is odd
abbrev IsOdd : ℕ → ℕ → Type 0
IsOdd n t = (n / 2 ^ t) % 2 ≡ 1

pub odd_left : (k n : ℕ) → 0 < n → n < 2 ^ k → IsOdd n (count_trailing_zeros k n)
unfolding count_trailing_zeros
odd_left zero n some few = absurd (omega (arith, some, few))
odd_left (suc k) n some few = go (n % 2) refl (odd_left k (n / 2))
  where
    go : (r : ℕ) → n % 2 ≡ r → (0 < n / 2 → n / 2 < 2 ^ k → IsOdd (n / 2) (count_trailing_zeros k (n / 2)))
        → IsOdd n (under r (count_trailing_zeros k (n / 2)))
    go = grind (arith, nat_tests, div-div-eq-div-mul, pow-succ')

pub odd_no_zeros : (k n : ℕ) → n % 2 ≡ 1 → count_trailing_zeros (suc k) n ≡ 0
unfolding count_trailing_zeros
odd_no_zeros k n odd = rw odd refl

fewer_off : (n t s : ℕ) → s ≤ t → Ends n t → Ends n s
fewer_off n t s le h =
    let e : (t - s) + s ≡ t = omega (arith, le) in
    let q = n / 2 ^ t in
    let whole : q * 2 ^ (t - s) * 2 ^ s ≡ n = grind (arith, nat_tests, pow-add) in
    subst (λ (x : ℕ). Ends x s) whole (ap (λ (p : ℕ). p * 2 ^ s) (shl-shr (q * 2 ^ (t - s)) s))

-- ---- what is left of two numbers

pub top_off : (t b s : ℕ) → s ≡ min (count_trailing_zeros 64 t) (count_trailing_zeros 64 b) → Ends t s
top_off t b s e = fewer_off t (count_trailing_zeros 64 t) s (omega (arith, e)) (zeros_off 64 t)

pub bottom_off : (t b s : ℕ) → s ≡ min (count_trailing_zeros 64 t) (count_trailing_zeros 64 b) → Ends b s
bottom_off t b s e = fewer_off b (count_trailing_zeros 64 b) s (omega (arith, e)) (zeros_off 64 b)

pub bottom_some : (t b s : ℕ) → s ≡ min (count_trailing_zeros 64 t) (count_trailing_zeros 64 b) → 0 < b → 0 < b / 2 ^ s
bottom_some t b s e some = grind (arith, nat_tests, bottom_off t b s e)

-- not both are even
pub one_odd : (t b s : ℕ) → s ≡ min (count_trailing_zeros 64 t) (count_trailing_zeros 64 b) → 0 < b → t < 2 ^ 64 → b < 2 ^ 64
    → (t / 2 ^ s) % 2 ≡ 0 → (b / 2 ^ s) % 2 ≡ 1
one_odd t b s e some p q even = elim (either (count_trailing_zeros 64 b) (count_trailing_zeros 64 t)) [
  | inl le ↦ grind (arith, nat_tests, odd_left)
  | inr less ↦
      let is : count_trailing_zeros 64 t ≡ s = omega (arith, e, less) in
      let within = trailing_le 64 b in
      let odd : (t / 2 ^ s) % 2 ≡ 1 = subst (IsOdd t) is (odd_left 64 t (filled t (omega (arith, less, within))) p) in
      absurd (omega (arith, even, odd))
]
  where
    either : (x y : ℕ) → (x ≤ y) ⊎ (y < x)
    either x y = elim (leb_tells x y) [ inl h ↦ inl h.1 | inr h ↦ inr (omega (arith, h.1)) ]

    filled : (n : ℕ) → count_trailing_zeros 64 n < 64 → 0 < n
    filled zero h = let all = trailing_of_zero 64 in absurd (omega (arith, h, all))
    filled (suc n) h = omega arith

pub reduced_scaled : (t b c : ℕ) → 0 < c → reduced (record { top = t * c; bottom = b * c }) ≡ reduced (record { top = t; bottom = b })
reduced_scaled t b c p =
    same_parts (ap (λ (g : ℕ). t * c / g) (gcd-scaled t b c p) ∙ mul-div-mul_right t (gcd t b) p)
    (ap (λ (g : ℕ). b * c / g) (gcd-scaled t b c p) ∙ mul-div-mul_right b (gcd t b) p)

pub reduced_off : (t b s : ℕ) → s ≡ min (count_trailing_zeros 64 t) (count_trailing_zeros 64 b)
    → reduced (record { top = t / 2 ^ s; bottom = b / 2 ^ s }) ≡ reduced (record { top = t; bottom = b })
reduced_off t b s e =
    sym (reduced_scaled (t / 2 ^ s) (b / 2 ^ s) (2 ^ s) (pow_pos s))
    ∙ ap reduced (same_parts (top_off t b s e) (bottom_off t b s e))

-- the zeros at the end of the second number count for nothing
pub gcd_odd_part : (x b : ℕ) → (x % 2 ≡ 0 → b % 2 ≡ 1) → gcd x (b / 2 ^ count_trailing_zeros 64 b) ≡ gcd x b
gcd_odd_part x b odd = elim (halves x) [
  | inl even ↦ grind (arith, nat_tests, odd_no_zeros)
  | inr more ↦
      let t = count_trailing_zeros 64 b in
      sym (odd_power t x (b / 2 ^ t) (omega (arith, more))) ∙ ap (gcd x) (zeros_off 64 b)
]

pub gcd_one : (x : ℕ) → gcd x 1 ≡ 1
gcd_one x = gcd-step x 1 (omega arith) ∙ ap (gcd 1) (omega arith) ∙ gcd-zero 1

-- a number that is 1 without the zeros at its end is a power of 2
pub one_bit : (b : ℕ) → b / 2 ^ count_trailing_zeros 64 b ≡ 1 → 2 ^ count_trailing_zeros 64 b ≡ b
one_bit b one = grind (arith, nat_tests, zeros_off 64 b)

pub divided_by_bit : (a b : ℕ) → b / 2 ^ count_trailing_zeros 64 b ≡ 1 → a / 2 ^ count_trailing_zeros 64 b ≡ a / b
divided_by_bit a b one = ap (λ (d : ℕ). a / d) (one_bit b one)

pub masked_by_bit : (a b : ℕ) → b / 2 ^ count_trailing_zeros 64 b ≡ 1 → bit_and a (b - 1) ≡ a % b
masked_by_bit = grind (arith, nat_tests, one_bit, and_mask)
