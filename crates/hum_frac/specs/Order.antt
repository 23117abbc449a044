-- Values of fractions are totally ordered.
use Rattle.std.specs.Prelude.{◌≡◌, ℕ, zero, suc, ◌*◌, ◌<◌, ◌==◌, nat_lt, Bool, if◌then◌else◌}
use mathlib.Core.Path.{sym, ap, ◌∙◌}
use borrow.Author.Tests.{ltb-true, eqb-true, eq-eqb, lt-ltb}
use native.Mathlib.Nat.{zero-lt-suc, mul_right_comm, mul-lt-mul_of_pos_right}
use native.Mathlib.Nat.{lt_of_mul-lt-mul_right, eq_of_mul-eq-mul_right}
use Rattle.std.specs.declared.cmp.Ordering.{Ordering}
use Rattle.std.specs.declared.cmp.Ordering.TheVariants.{Less, Equal, Greater}
use Rattle.std.specs.Ordering.{nat_cmp, eq_by_cmp}
use Rattle.std.specs.Cmp.{IsEquivalence, IsTotalOrder, both_ways, nat_cmp_total, eq_by_cmp_equiv}
use Rattle.hum_frac.specs.Ratio.{Ratio, at_least_one, compare}

some : (n : ℕ) → 0 < at_least_one n
some zero = zero-lt-suc 0
some (suc n) = zero-lt-suc n

-- Two products by one number compare as what it is multiplied with.
scaled_lt : (m n k : ℕ) → 0 < k → nat_lt (m * k) (n * k) ≡ nat_lt m n
scaled_lt m n k p = both_ways (nat_lt (m * k) (n * k)) (nat_lt m n)
    (λ e. lt-ltb m n (lt_of_mul-lt-mul_right k (ltb-true (m * k) (n * k) e)))
    (λ e. lt-ltb (m * k) (n * k) (mul-lt-mul_of_pos_right (ltb-true m n e) p))

scaled_eq : (m n k : ℕ) → 0 < k → (m * k == n * k) ≡ (m == n)
scaled_eq m n k p = both_ways (m * k == n * k) (m == n)
    (λ e. eq-eqb m n (eq_of_mul-eq-mul_right k p m n (eqb-true (m * k) (n * k) e)))
    (λ e. eq-eqb (m * k) (n * k) (ap (λ (x : ℕ). x * k) (eqb-true m n e)))

abbrev decide : Bool → Bool → Ordering
decide less same = if less then Less else if same then Equal else Greater

scaled : (m n k : ℕ) → 0 < k → nat_cmp (m * k) (n * k) ≡ nat_cmp m n
scaled m n k p =
    ap (λ (t : Bool). decide t (m * k == n * k)) (scaled_lt m n k p)
    ∙ ap (decide (nat_lt m n)) (scaled_eq m n k p)

-- the sides of a comparison of a and c, both by b's bottom
abbrev left : (a b c : Ratio) → ℕ
left a b c = a.top * at_least_one c.bottom * at_least_one b.bottom

abbrev right : (a b c : Ratio) → ℕ
right a b c = c.top * at_least_one a.bottom * at_least_one b.bottom

abbrev middle : (a b c : Ratio) → ℕ
middle a b c = b.top * at_least_one a.bottom * at_least_one c.bottom

by_third : (a b c : Ratio) → nat_cmp (left a b c) (right a b c) ≡ compare a c
by_third a b c = scaled (a.top * at_least_one c.bottom) (c.top * at_least_one a.bottom)
    (at_least_one b.bottom) (some b.bottom)

by_last : (a b c : Ratio) → nat_cmp (left a b c) (middle a b c) ≡ compare a b
by_last a b c =
    ap (λ (x : ℕ). nat_cmp x (middle a b c))
    (mul_right_comm a.top (at_least_one c.bottom) (at_least_one b.bottom))
    ∙ scaled (a.top * at_least_one b.bottom) (b.top * at_least_one a.bottom)
    (at_least_one c.bottom) (some c.bottom)

by_first : (a b c : Ratio) → nat_cmp (middle a b c) (right a b c) ≡ compare b c
by_first a b c =
    ap (λ (x : ℕ). nat_cmp x (right a b c))
    (mul_right_comm b.top (at_least_one a.bottom) (at_least_one c.bottom))
    ∙ ap (nat_cmp (b.top * at_least_one c.bottom * at_least_one a.bottom))
    (mul_right_comm c.top (at_least_one a.bottom) (at_least_one b.bottom))
    ∙ scaled (b.top * at_least_one c.bottom) (c.top * at_least_one b.bottom)
    (at_least_one a.bottom) (some a.bottom)

pub by_value : IsTotalOrder compare
by_value = record {
  antisymm = λ a b. nat_cmp_total.antisymm (a.top * at_least_one b.bottom)
      (b.top * at_least_one a.bottom);
  trans = λ a b c p q. sym (by_third a b c)
      ∙ nat_cmp_total.trans (left a b c) (middle a b c) (right a b c)
      (by_last a b c ∙ p) (by_first a b c ∙ q);
  congr = λ a b c p. sym (by_third a b c)
      ∙ nat_cmp_total.congr (left a b c) (middle a b c) (right a b c) (by_last a b c ∙ p)
      ∙ by_first a b c;
}

pub same_value : IsEquivalence (eq_by_cmp compare)
same_value = eq_by_cmp_equiv by_value
