-- The actor that an order picks which leans to a side.
use Rattle.std.proofs.lemmas.Bool.Decides.{nat_tests}
use Rattle.std.proofs.Common.{◌≡◌, ◌∙◌, ℕ, zero, suc, ◌+◌, ◌<◌, ◌≤◌, Bool, true, false, List, [], ◌∷◌, get_or, refl, sym, ap}
use Rattle.std.proofs.Common.{arith}
use Rattle.std.proofs.lemmas.Bool.{false≢true, false_from_ne_true, cond-true, cond-false}
use Rattle.hum_score.specs.Row.{Row, text_of}
use Rattle.hum_turns.specs.declared.order.Side.{Side}
use Rattle.hum_turns.specs.declared.order.Side.TheVariants as side
use Rattle.hum_turns.specs.Orders.{Order, first_true, last_true, some_true, chosen, choice, ready_list, LeansTo, Driven}
use Rattle.hum_turns.specs.Failures.{Now, is_ready}
use Rattle.hum_turns.proofs.Picking.{entry, entry_is}
use Rattle.hum_engine.specs.Scene.{Scene, plan_of}
use Rattle.hum_engine.specs.Looks.{Sees, FromLeft, FromRight, leaning}
use Rattle.hum_engine.proofs.Running.{some_at}

-- A flag that is set, and none in front of it.
first_by : (bs : List Bool) (k : ℕ) → get_or bs k false ≡ true
    → ((j : ℕ) → j < k → get_or bs j false ≡ false) → k ≡ first_true bs
first_by (b ∷ bs) (suc k) h below =
    let none : b ≡ false = below 0 (omega arith) in
    rw none (ap suc (first_by bs k h (λ j less. below (suc j) (omega (arith, less)))))
first_by bs k h w = grind (arith, nat_tests)

none_set : (bs : List Bool) → ((j : ℕ) → get_or bs j false ≡ false) → some_true bs ≡ false
none_set [] none = refl
none_set (b ∷ bs) none = grind (arith, none 0, none_set bs (λ j. none (suc j)))

-- A flag that is set, and none behind it.
last_by : (bs : List Bool) (k : ℕ) → get_or bs k false ≡ true
    → ((j : ℕ) → k < j → get_or bs j false ≡ false) → k ≡ last_true bs
last_by [] k h above = absurd (false≢true h)
last_by (b ∷ bs) zero h above =
    sym (cond-false _ _ _ (none_set bs (λ j. above (suc j) (omega arith))))
last_by (b ∷ bs) (suc k) h above =
    ap suc (last_by bs k h (λ j more. above (suc j) (omega (arith, more))))
    ∙ sym (cond-true _ _ _ (some_at bs k h))

-- Who is ready, and nobody to its left or to its right, is the choice of the order that leans there.
module _ (s : Scene) (now : Now Row) {k : ℕ} (within : k ≤ s.count) (is : is_ready (plan_of s) s.size now k ≡ true) where
  here : get_or (ready_list (plan_of s) s.size now) k false ≡ true
  here = entry (is_ready (plan_of s) s.size now) (s.count + 1) k (omega (arith, within)) ∙ is

  chosen_here : (pick : ℕ) → k ≡ pick → k ≡ chosen (ready_list (plan_of s) s.size now) pick
  chosen_here pick same = rw (← same) (sym (cond-true _ k (first_true (ready_list (plan_of s) s.size now)) here))

  pub left_choice : Sees (FromLeft k) s now → k ≡ choice (leaning side.Left) (plan_of s) s.size tt now
  left_choice = grind (arith, nat_tests, chosen_here, first_by, here, entry)

  pub right_choice : Sees (FromRight k) s now → k ≡ choice (leaning side.Right) (plan_of s) s.size tt now
  right_choice sees =
      let f = is_ready (plan_of s) s.size now in
      chosen_here _ (last_by (ready_list (plan_of s) s.size now) k here
      (λ j more. false_from_ne_true _ (λ set.
      let e = entry_is f (s.count + 1) j set in
      false≢true (sym (sees.1 j more (omega (arith, e.0))) ∙ e.1))))

-- What is driven by that order is driven by each that leans to its side.
pub leans_alike : {O : Type 0} (to : Side) (order : Order O) (o : O) (s : Scene) → LeansTo to order.pick order.next o
    → (ks : List ℕ) (old new : Now Row) → Driven (leaning to) (plan_of s) s.size text_of tt old ks new tt
    → Driven order (plan_of s) s.size text_of o old ks new o
leans_alike to order o s leans [] old new d = (d.0, refl)
leans_alike {O} to order o s leans (k ∷ ks) old new d =
    grind (arith, nat_tests, leans_alike to order o s leans ks d.0 new d.3)
