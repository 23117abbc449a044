-- Values with dots, over one bottom.
use Rattle.std.proofs.lemmas.Bool.Decides.{nat_tests}
use Rattle.std.proofs.Common.{◌≡◌, ℕ, zero, suc, ◌+◌, ◌*◌, ◌<◌, ◌≤◌, refl, sym, ap, ◌∙◌, arith}
use Rattle.std.proofs.Math.Nat.{mul_left_comm}
use native.Mathlib.Nat.{mul_assoc, add-mul, mul-pos}
use Rattle.hum_frac.specs.Ratio.{Ratio, IsSame, reduced}
use Rattle.hum_frac.proofs.Ratios.{reduced_positive, reduced_lowest, reduced_value, lowest_of_one, same_trans}
use Rattle.hum_kern.specs.Value.{added, dotted}

pub record IsGreater (value : Ratio) : Type 0 where
  pub top : 0 < value.top
  pub bottom : 0 < value.bottom

added_greater : (value : Ratio) (dots : ℕ) → IsGreater value → IsGreater (added value dots)
added_greater value zero h = h
added_greater value (suc dots) h = let before = added_greater value dots h in record { top = before.top; bottom = let some = before.bottom in omega arith }

pub dotted_greater : (value : Ratio) (dots : ℕ) → 0 < value.top → 0 < value.bottom → IsGreater (dotted value dots)
dotted_greater value zero p q = record { top = p; bottom = q }
dotted_greater value (suc dots) p q =
    let before = dotted_greater value dots p q in
    let more = added_greater value (suc dots) (record { top = p; bottom = q }) in
    let some = mul-pos before.top more.bottom in
    record { top = omega arith; bottom = mul-pos before.bottom more.bottom }

-- the sum over the last added value's bottom
abbrev pub shared : Ratio → ℕ → Ratio
shared value zero = value
shared value (suc dots) = more (shared value dots)
  where
    more : Ratio → Ratio
    more last = record { top = 2 * last.top + value.top; bottom = 2 * last.bottom }

added_top : (value : Ratio) (dots : ℕ) → (added value dots).top ≡ value.top
added_top value zero = refl
added_top value (suc dots) = added_top value dots

added_bottom : (value : Ratio) (dots : ℕ) → (added value dots).bottom ≡ (shared value dots).bottom
added_bottom value zero = refl
added_bottom value (suc dots) = ap (λ (x : ℕ). 2 * x) (added_bottom value dots)

-- one more dot, over numbers
one_more : (f b t u w h : ℕ) → f * w ≡ u * b → h ≡ 2 * b → (2 * f + t) * (w * h) ≡ (u * h + t * w) * (2 * b)
one_more f b t u w h e is =
    let double : 2 * f * w ≡ u * h = mul_assoc 2 f w ∙ ap (λ (x : ℕ). 2 * x) e ∙ mul_left_comm 2 u b ∙ ap (λ (x : ℕ). u * x) (sym is) in
    let tops : (2 * f + t) * w ≡ u * h + t * w = add-mul (2 * f) t w ∙ ap (λ (x : ℕ). x + t * w) double in
    sym (mul_assoc (2 * f + t) w h) ∙ ap (λ (x : ℕ). x * h) tops ∙ ap (λ (x : ℕ). (u * h + t * w) * x) is

shared_same : (value : Ratio) (dots : ℕ) → IsSame (shared value dots) (dotted value dots)
shared_same value zero = refl
shared_same value (suc dots) =
    grind (arith, nat_tests, shared_same value dots, added_top, one_more, added_bottom)

pub shared_positive : (value : Ratio) (dots : ℕ) → 0 < value.bottom → 0 < (shared value dots).bottom
shared_positive value zero q = q
shared_positive value (suc dots) q = let some = shared_positive value dots q in omega arith

-- Both have the same lowest terms.
pub shared_reduced : (value : Ratio) (dots : ℕ) → 0 < value.top → 0 < value.bottom → reduced (shared value dots) ≡ reduced (dotted value dots)
shared_reduced value dots p q =
    let some = shared_positive value dots q in
    let more = (dotted_greater value dots p q).bottom in
    lowest_of_one (reduced (shared value dots)) (reduced (dotted value dots))
    (reduced_positive (shared value dots) some) (reduced_positive (dotted value dots) more)
    (reduced_lowest (shared value dots) some) (reduced_lowest (dotted value dots) more)
    (same_trans (reduced (shared value dots)) (shared value dots) (reduced (dotted value dots)) some (reduced_value (shared value dots))
    (same_trans (shared value dots) (dotted value dots) (reduced (dotted value dots)) more (shared_same value dots) (sym (reduced_value (dotted value dots)))))

pub shared_bound : (top bottom dots : ℕ) → top ≤ 4096 → bottom ≤ 4096 → dots ≤ 6 →
    ((shared (record { top = top; bottom = bottom }) dots).top < 1048576) × ((shared
    (record { top = top; bottom = bottom }) dots).bottom < 1048576)
shared_bound top bottom zero p q r = (omega arith, omega arith)
shared_bound top bottom (suc zero) p q r = (omega arith, omega arith)
shared_bound top bottom (suc (suc zero)) p q r = (omega arith, omega arith)
shared_bound top bottom (suc (suc (suc zero))) p q r = (omega arith, omega arith)
shared_bound top bottom (suc (suc (suc (suc zero)))) p q r = (omega arith, omega arith)
shared_bound top bottom (suc (suc (suc (suc (suc zero))))) p q r = (omega arith, omega arith)
shared_bound top bottom (suc (suc (suc (suc (suc (suc zero)))))) p q r = (omega arith, omega arith)
shared_bound top bottom (suc (suc (suc (suc (suc (suc (suc n))))))) p q r = absurd (omega arith)
