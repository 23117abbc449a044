-- The next end is the least after a time.
use Rattle.std.proofs.Common.{◌≡◌, refl, sym, subst, ℕ, zero, suc, ◌<◌, List, [], ◌∷◌, Option, None, Some, true, false, slice_get, arith}
use Rattle.std.proofs.lemmas.Bool.Decides.{nat_tests}
use Rattle.hum_score.proofs.Cases.{by_bool}
use Rattle.hum_frac.specs.Ratio.{Ratio, IsBefore, is_before}
use Rattle.hum_frac.proofs.Order.{NotBefore}
use Rattle.hum_timebase.specs.Ends.{sooner, next_end}
use Rattle.hum_timebase.proofs.Lasting.{ArePositive}
use Rattle.hum_places.specs.Grid.{IsLeastAfter}
use Rattle.hum_places.proofs.Multiples.{before_later}

pub is_so : (a b : Ratio) → is_before a b ≡ true → IsBefore a b
is_so a b w = grind (arith, nat_tests, w)

pub is_not : (a b : Ratio) → is_before a b ≡ false → NotBefore a b
is_not a b w = grind (arith, nat_tests, w)

pub not_both : (a b : Ratio) → NotBefore a b → IsBefore a b → ⊥
not_both a b late less = omega (arith, late, less)

pub not_self : (a : Ratio) → IsBefore a a → ⊥
not_self a less = omega (arith, less)

some_same : {a b : Ratio} → ◌≡◌ {A = Option (Option Ratio)} (Some (Some a)) (Some (Some b)) → a ≡ b
some_same e = cc

positive_at : (ends : List (Option Ratio)) → ArePositive ends → (i : ℕ) (end : Ratio) → slice_get ends i ≡ Some (Some end) → 0 < end.bottom
positive_at [] h i end e = cc
positive_at (None ∷ ends) h zero end e = cc
positive_at (Some other ∷ ends) h zero end e = let same : other ≡ end = some_same e in rw (← same) h.0
positive_at (other ∷ ends) h (suc i) end e = positive_at ends h.1 i end e

-- one end more that isn't after the time
passes : (time : Ratio) (end : Option Ratio) (ends : List (Option Ratio)) (found : Option Ratio)
    → ((other : Ratio) → end ≡ Some other → ¬ IsBefore time other) → IsLeastAfter time ends found → IsLeastAfter time (end ∷ ends) found
passes time end ends None not_after h = grind (arith, nat_tests)
passes time end ends (Some least) not_after h = record { place = suc h.place; one = h.one; after = h.after; first = by_place }
  where
    by_place : (i : ℕ) (other : Ratio) → slice_get (end ∷ ends) i ≡ Some (Some other) → IsBefore time other → ¬ IsBefore other least
    by_place = grind (arith, nat_tests)

-- one end more that is after it
meets : (time end : Ratio) (ends : List (Option Ratio)) (found : Option Ratio) → 0 < end.bottom → ArePositive ends → IsBefore time end
    → IsLeastAfter time ends found → IsLeastAfter time (Some end ∷ ends) (sooner (Some end) found)
meets time end ends None p q after h = grind (arith, nat_tests)
meets time end ends (Some least) p q after h = by_bool (is_before least end)
    (λ w. rw w (record { place = suc h.place; one = h.one; after = h.after; first = earlier (is_so least end w) }))
    (λ w. rw w (record { place = 0; one = refl; after = after; first = later (is_not least end w) }))
  where
    earlier : IsBefore least end → (i : ℕ) (other : Ratio) → slice_get (Some end ∷ ends) i ≡ Some (Some other) → IsBefore time other
        → ¬ IsBefore other least
    earlier = grind (arith, nat_tests)

    later : NotBefore least end → (i : ℕ) (other : Ratio) → slice_get (Some end ∷ ends) i ≡ Some (Some other) → IsBefore time other
        → ¬ IsBefore other end
    later w zero other e on less = let same : end ≡ other = some_same e in not_self end (subst (λ (x : Ratio). IsBefore x end) (sym same) less)
    later w (suc i) other e on less = h.first i other e on (before_later other end least p (positive_at ends q h.place least h.one) less w)

pub next_is_least : (time : Ratio) (ends : List (Option Ratio)) → ArePositive ends → IsLeastAfter time ends (next_end time ends)
next_is_least time [] h = λ i end e less. cc
next_is_least time (None ∷ ends) h = grind (arith, nat_tests, next_is_least time ends h.1, passes)
next_is_least time (Some end ∷ ends) h =
    grind (arith, nat_tests, next_is_least time ends h.1, meets, is_so, passes)
