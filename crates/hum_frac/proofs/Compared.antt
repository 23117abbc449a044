-- Fractions as they are kept, compared by value.
use Rattle.std.proofs.Common.{◌≡◌, ℕ, ◌*◌, ◌<◌, ◌&&◌, Bool, true, false, sym, ap, ◌∙◌, arith, rules, refl, subst, nat_eq}
use Rattle.std.specs.Prelude.{◌↔◌, IsTrue}
use Rattle.std.specs.declared.cmp.Ordering.{Ordering}
use Rattle.std.specs.Ordering.{is_eq, is_ge, nat_cmp, MatchOrdering}
use borrow.Author.Tests.{eq-eqb}
use Rattle.std.proofs.lemmas.Bool.Decides.{nat_tests}
use Rattle.std.proofs.lemmas.Cmp.{ranked}
use Rattle.hum_frac.specs.Ratio.{Ratio, IsSame, IsBefore, is_before, IsKept, at_least_one, compare}
use Rattle.hum_frac.proofs.Ratios.{lowest_of_one}

itself : (n : ℕ) → 0 < n → at_least_one n ≡ n
itself = grind (arith, nat_tests)

-- Of bottoms above 0 the order is that of the products.
pub compare_by : (a b : Ratio) → 0 < a.bottom → 0 < b.bottom → compare a b ≡ nat_cmp (a.top * b.bottom) (b.top * a.bottom)
compare_by a b p q = rw (itself a.bottom p, itself b.bottom q) refl

pub compared : (a b : Ratio) → 0 < a.bottom → 0 < b.bottom → MatchOrdering (compare a b) (IsBefore a b) (IsSame a b) (IsBefore b a)
compared a b p q = ranked (a.top * b.bottom) (b.top * a.bottom) (compare a b) (compare_by a b p q)

tied : (P Q R : Type 0) (o : Ordering) → MatchOrdering o P Q R → is_eq o ≡ true → Q
tied = grind (arith, nat_tests)

-- the same numbers
abbrev pub alike : Ratio → Ratio → Bool
alike a b = nat_eq a.top b.top && nat_eq a.bottom b.bottom

module _ (a b : Ratio) (p : IsKept a.top a.bottom) (q : IsKept b.top b.bottom) where
  pub same_numbers : IsSame a b → a ≡ b
  same_numbers h = lowest_of_one a b p.positive q.positive p.lowest q.lowest h

  alike_is : alike a b ≡ true → a ≡ b
  alike_is = grind (arith, nat_tests)

  is_alike : a ≡ b → alike a b ≡ true
  is_alike e = ap (alike a) (sym e) ∙ search rules

  pub alike_compared : alike a b ≡ is_eq (compare a b)
  alike_compared = grind (arith, nat_tests, alike_is, is_alike, same_numbers, tied, compared)

  pub alike_same : IsTrue (alike a b) ↔ IsSame a b
  alike_same = ((λ e. ap (λ (x : Ratio). x.top * b.bottom) (alike_is e) ∙ ap (λ (x : Ratio). b.top * x.bottom) (sym (alike_is e))), λ h. is_alike (same_numbers h))

  bottoms_decide : a.top ≡ b.top → alike a b ≡ nat_eq a.bottom b.bottom
  bottoms_decide e = ap (λ t. t && nat_eq a.bottom b.bottom) (eq-eqb a.top b.top e)

  tops_decide : (a.top ≡ b.top → ⊥) → alike a b ≡ nat_eq a.top b.top
  tops_decide = grind (arith, nat_tests)

  pub by_bottoms : a.top ≡ b.top → nat_eq a.bottom b.bottom ≡ is_eq (compare a b)
  by_bottoms e = sym (bottoms_decide e) ∙ alike_compared

  pub by_tops : (a.top ≡ b.top → ⊥) → nat_eq a.top b.top ≡ is_eq (compare a b)
  by_tops e = sym (tops_decide e) ∙ alike_compared

  pub same_bottoms : a.top ≡ b.top → IsTrue (nat_eq a.bottom b.bottom) ↔ IsSame a b
  same_bottoms e = subst (λ t. IsTrue t ↔ IsSame a b) (bottoms_decide e) alike_same

  pub same_tops : (a.top ≡ b.top → ⊥) → IsTrue (nat_eq a.top b.top) ↔ IsSame a b
  same_tops e = subst (λ t. IsTrue t ↔ IsSame a b) (tops_decide e) alike_same

-- What isn't less by the order isn't before.
pub not_before : (a b : Ratio) → 0 < a.bottom → 0 < b.bottom → is_ge (compare a b) ≡ true → is_before a b ≡ false
not_before = grind (arith, nat_tests)
