-- Multiples of a fraction in a list, by their numbers.
use Rattle.std.proofs.Common.{◌≡◌, ◌∙◌, refl, ap, ℕ, zero, suc, ◌+◌, ◌-◌, ◌*◌, ◌<◌, ◌≤◌, ◌↔◌, arith}
use Rattle.std.proofs.Common.{List, [], ◌∷◌, map, length, replicate, Some}
use Rattle.std.specs.Prelude.{slice_index_or, nat_lt}
use Rattle.std.specs.List.{Contains}
use Rattle.std.proofs.lemmas.Bool.Decides.{nat_tests}
use native.Mathlib.Nat.{mul-lt-mul_of_pos_right, mul-le-mul_right, mul_right_comm, lt_of_mul-lt-mul_right}
use Rattle.hum_score.proofs.Cases.{by_bool}
use Rattle.hum_frac.specs.Ratio.{Ratio, IsSame, IsBefore, is_before}
use Rattle.hum_frac.specs.Multiples.{times, IsMultiple, is_multiple, first_after, first_from, multiples_between}
use Rattle.hum_frac.proofs.Ratios.{after_first, before_from, multiple_test}
use Rattle.hum_frac.proofs.Order.{NotBefore}
use Rattle.hum_timebase.specs.Timebase.{multiples_from}
use Rattle.hum_places.specs.Grid.{AreMultiples, IsFrom, IsWithin}

-- so many numbers, one after another
abbrev pub run : ℕ → ℕ → List ℕ
run first zero = []
run first (suc n) = first ∷ run (first + 1) n

run_length : (first n : ℕ) → length (run first n) ≡ n
run_length first zero = refl
run_length first (suc n) = ap suc (run_length (first + 1) n)

run_at : (first n i d : ℕ) → i < n → slice_index_or (run first n) i d ≡ first + i
run_at first zero i d h = absurd (omega (arith, h))
run_at first (suc n) zero d h = omega arith
run_at first (suc n) (suc i) d h = run_at (first + 1) n i d (omega (arith, h)) ∙ omega arith

in_run : (first n k : ℕ) → Contains (run first n) k ↔ ((first ≤ k) × (k < first + n))
in_run first n k = (
  λ h.
      let size = run_length first n in
      let below = h.1 in
      let at = run_at first n h.0 k (omega (arith, size, below)) in
      let is = h.2 in
      (omega (arith, at, is), omega (arith, at, is, size, below)),
  λ h.
      let low = h.0 in
      let high = h.1 in
      let size = run_length first n in
      let i : ℕ = k - first in
      let within : k - first < n = omega (arith, low, high) in
      (k - first, omega (arith, size, within), run_at first n (k - first) k within ∙ omega (arith, low)),
)

pub replicated : {X : Type 0} (x : X) (first n : ℕ) → replicate n x ≡ map (λ k. x) (run first n)
replicated x first zero = refl
replicated x first (suc n) = ap (λ xs. x ∷ xs) (replicated x (first + 1) n)

-- those of a run that pass a test of numbers
run_passes : (t : Ratio) (Passes : Ratio → Type 0) (first n : ℕ)
    → ((k : ℕ) → ((first ≤ k) × (k < first + n)) ↔ Passes (times k t)) → AreMultiples t Passes (run first n)
run_passes t Passes first n test = record {
  ascending = λ i h.
      let size = run_length first n in
      let a = run_at first n i 0 (omega (arith, h, size)) in
      let b = run_at first n (i + 1) 0 (omega (arith, h, size)) in
      omega (arith, a, b);
  all = λ k. (λ h. (test k).0 ((in_run first n k).0 h), λ h. (in_run first n k).1 ((test k).1 h));
}

-- what is before a time is before an end that isn't earlier
pub before_later : (m time end : Ratio) → 0 < time.bottom → 0 < end.bottom → IsBefore m time → NotBefore end time → IsBefore m end
before_later m time end p q less late =
    let a : m.top * time.bottom * end.bottom < time.top * m.bottom * end.bottom = mul-lt-mul_of_pos_right less q in
    let b : time.top * end.bottom * m.bottom ≤ end.top * time.bottom * m.bottom = mul-le-mul_right m.bottom late in
    let c : time.top * m.bottom * end.bottom ≡ time.top * end.bottom * m.bottom = mul_right_comm time.top m.bottom end.bottom in
    let d : m.top * time.bottom * end.bottom ≡ m.top * end.bottom * time.bottom = mul_right_comm m.top time.bottom end.bottom in
    let e : end.top * time.bottom * m.bottom ≡ end.top * m.bottom * time.bottom = mul_right_comm end.top time.bottom m.bottom in
    lt_of_mul-lt-mul_right time.bottom (omega (arith, a, b, c, d, e))

module _ (t : Ratio) (top : 0 < t.top) where
  -- strictly between a time and an end
  pub within_so : (time end : Ratio) → 0 < time.bottom → 0 < end.bottom
      → AreMultiples t (IsWithin time (Some end)) (run (first_after time t) (multiples_between time end t))
  within_so time end p q = run_passes t (IsWithin time (Some end)) (first_after time t) (multiples_between time end t) (λ k.
      let low = after_first time t k p top in
      let high = before_from end t k q top in (
        λ h.
            let x = h.0 in
            let y = h.1 in
            let less : suc k ≤ first_from end t = omega (arith, x, y) in
            (low.0 x, high.0 less),
        λ h.
            let x = low.1 h.0 in
            let y = high.1 h.1 in
            (x, omega (arith, x, y)),
      ))

  -- from an end, it included, to a time
  pub from_so : (end time : Ratio) → 0 < end.bottom → 0 < time.bottom
      → AreMultiples t (IsFrom (Some end) time) (run (first_from end t) (first_from time t - first_from end t))
  from_so = grind (arith, nat_tests, run_passes, before_from)

  module _ (bottom : 0 < t.bottom) where
    -- a multiple is the first that isn't less, and the next is the first that is greater
    on_multiple : (b : Ratio) → 0 < b.bottom → (m : IsMultiple b t) → (first_from b t ≡ m.0) × (first_after b t ≡ m.0 + 1)
    on_multiple = grind (arith, nat_tests)

    off_multiple : (b : Ratio) → 0 < b.bottom → ¬ IsMultiple b t → first_from b t ≡ first_after b t
    off_multiple b p none =
        let low : first_from b t ≤ first_after b t = by_bool (nat_lt (first_after b t) (first_from b t))
        (λ w.
        let less = (before_from b t (first_after b t) p top).0 (grind (arith, nat_tests, w)) in
        let more = (after_first b t (first_after b t) p top).0 (omega arith) in
        absurd (omega (arith, less, more)))
        (λ w. grind (arith, nat_tests, w)) in
        let high : first_after b t ≤ first_from b t = by_bool (nat_lt (first_from b t) (first_after b t))
        (λ w.
        let not_less : b.top * t.bottom ≤ first_from b t * t.top * b.bottom = by_bool (nat_lt (first_from b t * t.top * b.bottom) (b.top * t.bottom))
        (λ v. let z = (before_from b t (first_from b t) p top).1 (grind (arith, nat_tests, v)) in absurd (omega (arith, z)))
        (λ v. grind (arith, nat_tests, v)) in
        let not_more : first_from b t * t.top * b.bottom ≤ b.top * t.bottom = by_bool (nat_lt (b.top * t.bottom) (first_from b t * t.top * b.bottom))
        (λ v. let z = (after_first b t (first_from b t) p top).1 (grind (arith, nat_tests, v)) in absurd (grind (arith, nat_tests, w, z)))
        (λ v. grind (arith, nat_tests, v)) in
        absurd (none (first_from b t, omega (arith, not_less, not_more))))
        (λ w. grind (arith, nat_tests, w)) in
        omega (arith, low, high)

    -- a multiple of the value of an end is before what the end is before
    same_before : (k : ℕ) (end time : Ratio) → 0 < end.bottom → IsSame (times k t) end → IsBefore end time → IsBefore (times k t) time
    same_before k end time p same less =
        let a : k * t.top * time.bottom * end.bottom ≡ k * t.top * end.bottom * time.bottom = mul_right_comm (k * t.top) time.bottom end.bottom in
        let b : k * t.top * end.bottom * time.bottom ≡ end.top * t.bottom * time.bottom = ap (λ (x : ℕ). x * time.bottom) same in
        let c : end.top * t.bottom * time.bottom ≡ end.top * time.bottom * t.bottom = mul_right_comm end.top t.bottom time.bottom in
        let d : end.top * time.bottom * t.bottom < time.top * end.bottom * t.bottom = mul-lt-mul_of_pos_right less bottom in
        let e : time.top * end.bottom * t.bottom ≡ time.top * t.bottom * end.bottom = mul_right_comm time.top end.bottom t.bottom in
        lt_of_mul-lt-mul_right end.bottom (omega (arith, a, b, c, d, e))

    -- the counts
    none_from : (end time : Ratio) → 0 < end.bottom → 0 < time.bottom → NotBefore end time → first_from time t ≤ first_from end t
    none_from end time p q late = by_bool (nat_lt (first_from end t) (first_from time t))
        (λ w.
        let less = (before_from time t (first_from end t) q top).0 (grind (arith, nat_tests, w)) in
        let z = (before_from end t (first_from end t) p top).1 (before_later (times (first_from end t) t) time end q p less late) in
        absurd (omega (arith, z)))
        (λ w. grind (arith, nat_tests, w))

    pub counted_from : (end time : Ratio) → 0 < end.bottom → 0 < time.bottom
        → multiples_from end time t ≡ first_from time t - first_from end t
    counted_from end time p q = by_bool (is_before end time)
        (λ w. by_bool (is_multiple end t)
        (λ v.
        let m = (multiple_test end t).0 v in
        let on = on_multiple end p m in
        let a = on.0 in
        let c = on.1 in
        let less : IsBefore end time = grind (arith, nat_tests, w) in
        let d = (before_from time t m.0 q top).1 (same_before m.0 end time p m.1 less) in
        rw (w, v) (omega (arith, a, c, d)))
        (λ v.
        let off = off_multiple end p (λ m. let z = (multiple_test end t).1 m in cc) in
        rw (w, v) (omega (arith, off))))
        (λ w.
        let late : NotBefore end time = grind (arith, nat_tests, w) in
        let none = none_from end time p q late in
        let after : first_from end t ≤ first_after end t = by_bool (is_multiple end t)
        (λ v. let m = (multiple_test end t).0 v in let on = on_multiple end p m in let a = on.0 in let c = on.1 in omega (arith, a, c))
        (λ v. let off = off_multiple end p (λ m. let z = (multiple_test end t).1 m in cc) in omega (arith, off)) in
        rw w (omega (arith, none, after)))
