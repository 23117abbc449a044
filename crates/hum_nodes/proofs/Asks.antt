-- How often a poll calls its reader.
use Rattle.std.proofs.lemmas.Bool.Decides.{nat_tests}
use Rattle.std.proofs.Common.{arith, ◌≡◌, refl, ℕ, Bool, true, false, ◌||◌, ◌⊎◌, inl, inr}
use Rattle.std.proofs.lemmas.Bool.{cases_eq}
use Rattle.hum_text.specs.Calls.{counted}
use Rattle.hum_text.specs.Reading.{Reader, NeedsRead, IsUnread}
use Rattle.hum_read.specs.Reading.{IsCalledAtMostOnce}
use Rattle.hum_nodes.specs.Polls.{AsksAtMostOnce}

marks : (f g : Bool) → ((failure : Bool) × (g ≡ (f || failure))) ⊎ ((f ≡ true) × (g ≡ false))
marks false g = inl (g, refl)
marks true true = inl (true, refl)
marks true false = inr (refl, refl)

alike : (f g : Bool) → (g ≡ f) ⊎ (g ≡ f → ⊥)
alike f g = grind arith

decide : (a : ℕ) (f : Bool) (b : ℕ) (g : Bool)
    → AsksAtMostOnce a f b g ⊎ (AsksAtMostOnce a f b g → ⊥)
decide a f b g = grind (arith, nat_tests, marks f g, cases_eq b (counted a), cases_eq b a, alike f g)

called : {S : Type 0} (calls : S → ℕ) (failed : S → Bool) (old new : S)
    → IsCalledAtMostOnce calls failed old new
    → AsksAtMostOnce (calls old) (failed old) (calls new) (failed new)
called = grind (arith, nat_tests)

-- Who calls once where it needs to, and not at all where it needn't, calls at most once.
pub asks_once : {R : Type 0} (calls : R → ℕ) (failed : R → Bool) (v w : Reader R)
    → ((NeedsRead v → ⊥) → IsUnread v w)
    → (NeedsRead v → IsCalledAtMostOnce calls failed v.source w.source)
    → AsksAtMostOnce (calls v.source) (failed v.source) (calls w.source) (failed w.source)
asks_once calls failed v w unread once =
    elim (decide (calls v.source) (failed v.source) (calls w.source) (failed w.source)) [
      | inl h ↦ h
      | inr not ↦ grind (arith, nat_tests, called)
    ]
