-- Whose fault is told.
use Rattle.std.proofs.lemmas.Bool.Decides.{nat_tests}
use Rattle.std.proofs.Common.{◌≡◌, ℕ, zero, suc, pred, ◌+◌, ◌<◌, ◌≤◌, ◌⊎◌, Bool, true}
use Rattle.std.proofs.Common.{false, List, [], ◌∷◌, map, slice_get, Some, unwrap_or, refl}
use Rattle.std.proofs.Common.{sym, ap, ◌∙◌, subst, ⊎_elim, arith}
use Rattle.std.proofs.lemmas.Bool.{true≢false, cases_eq, cases_lt}
use Rattle.std.proofs.lemmas.Option.{none-some, same_Some}
use Rattle.std.specs.List.{AllByRecursion}
use Rattle.hum_stage.specs.declared.faults.End.{End}
use Rattle.hum_stage.specs.declared.faults.End.TheVariants.{Closed, Broken}
use Rattle.hum_turns.specs.Flow.{Flow}
use Rattle.hum_turns.specs.Plan.{lower, inputs_end, or_own, Plan, last, IsPlan}
use Rattle.hum_turns.specs.Meaning.{meaning, own_of, first_fault, IsNumbered, WhoseFault}
use Rattle.hum_stage.specs.declared.faults.Fault.{Fault}
use Rattle.hum_turns.proofs.States.{last_less}
use Rattle.hum_turns.proofs.Against.{finals, meaning_is}

-- No fault, this one, or a higher-numbered one.
abbrev AtLeast : Fault → End → Type 0
AtLeast f Closed = Unit {0}
AtLeast f (Broken g) = (f.stage < g.stage) ⊎ (f ≡ g)

is_fault : End → Bool
is_fault Closed = false
is_fault (Broken q) = true

fault_not : (q : Fault) → Broken q ≡ Closed → ⊥
unfolding is_fault
fault_not q h = true≢false (ap is_fault h)

-- The lower of two ends.

lower_least : (f : Fault) (a b : End) → AtLeast f a → AtLeast f b → AtLeast f (lower a b)
lower_least = grind (arith, nat_tests)

-- where one of them is this fault, it is the lower
lower_left : (f : Fault) (b : End) → AtLeast f b → lower (Broken f) b ≡ Broken f
lower_left = grind (arith, nat_tests)

or_least : (q : Fault) (a b : End) → AtLeast q a → AtLeast q b → AtLeast q (or_own a b)
or_least = grind (arith, nat_tests)

or_hit : (a own f : End) → a ≡ f → (f ≡ Closed → ⊥) → or_own a own ≡ f
or_hit = grind (arith, nat_tests)

or_closed : (a b : End) → or_own a b ≡ Closed → (a ≡ Closed) × (b ≡ Closed)
or_closed = grind (arith, nat_tests)

-- The ends of a stage's inputs.

end_at : {R : Type 0} → Flow R → End
end_at a = unwrap_or a.end Closed

module _ {R : Type 0} (f : ℕ → Flow R) (P : ℕ → Type 0) where
  inputs_closed : ((s : ℕ) → P s → end_at (f s) ≡ Closed)
      → (ss : List ℕ) → AllByRecursion P ss → inputs_end (map f ss) ≡ Closed
  unfolding end_at
  inputs_closed h [] p = refl
  inputs_closed h (s ∷ ss) p = grind (arith, nat_tests, inputs_closed h ss p.1)

  module _ (q : Fault) (h : (s : ℕ) → P s → AtLeast q (end_at (f s))) where
    inputs_least : (ss : List ℕ) → AllByRecursion P ss → AtLeast q (inputs_end (map f ss))
    unfolding end_at
    inputs_least [] p = tt
    inputs_least (s ∷ ss) p = lower_least q _ _ (h s p.0) (inputs_least ss p.1)

    -- one of them ends by this fault
    inputs_hit : (ss : List ℕ) (place k : ℕ) → AllByRecursion P ss → slice_get ss place ≡ Some k
        → end_at (f k) ≡ Broken q → inputs_end (map f ss) ≡ Broken q
    unfolding end_at
    inputs_hit [] place k p at e = absurd (none-some k at)
    inputs_hit (s ∷ ss) zero k p at e = grind (arith, nat_tests, end_at, same_Some, lower_left, inputs_least)
    inputs_hit (s ∷ ss) (suc place) k p at e = grind (arith, nat_tests, inputs_hit ss place k p.1)

-- a fault of stage k, against the one that bears the lowest number
own_least : (q : Fault) (k : ℕ) (e : End) → (k + 1 < q.stage) ⊎ (q.stage ≤ k + 1)
    → (k + 1 < q.stage → e ≡ Closed) → (q.stage ≡ k + 1 → e ≡ Broken q)
    → ((g : Fault) → e ≡ Broken g → g.stage ≡ k + 1) → AtLeast q e
own_least = grind (arith, nat_tests)

last_is : (n j : ℕ) → j < n → n ≤ j + 1 → j ≡ pred n
last_is = grind (arith, nat_tests)

-- The stages evaluated in order.

-- stage k refuses by this fault, and none before it refuses
record FirstAt {R : Type 0} (plan : Plan R) (n : ℕ) (q : Fault) : Type 0 where
  k : ℕ
  less : k < n
  here : own_of plan k ≡ Broken q
  before : (j : ℕ) → j < k → own_of plan j ≡ Closed

module _ {R : Type 0} (plan : Plan R) where
  first_closed : (n k : ℕ) → first_fault plan n ≡ Closed → k < n → own_of plan k ≡ Closed
  first_closed zero k h less = absurd (omega arith)
  first_closed (suc n) k h less =
      let p = or_closed (first_fault plan n) (own_of plan n) h in
      ⊎_elim
      (λ same. subst (λ j. own_of plan j ≡ Closed) (sym same) p.1)
      (λ other. first_closed n k p.0 (omega arith))
      (cases_eq k n)

  first_step : (n : ℕ) (q : Fault) (a : End) → first_fault plan n ≡ a
      → or_own a (own_of plan n) ≡ Broken q
      → ((g : Fault) → first_fault plan n ≡ Broken g → FirstAt plan n g) → FirstAt plan (suc n) q
  first_step n q Closed e h rec = grind (arith, nat_tests, first_closed)
  first_step n q (Broken g) e h rec =
      let r = rec q (e ∙ h) in
      let less = r.less in
      record { k = r.k; less = omega arith; here = r.here; before = r.before }

  first_broken : (n : ℕ) (q : Fault) → first_fault plan n ≡ Broken q → FirstAt plan n q
  first_broken zero q h = absurd (fault_not q (sym h))
  first_broken (suc n) q h =
      first_step n q (first_fault plan n) refl h (λ g e. first_broken n g e)

module _ {R : Type 0} (plan : Plan R) (ok : IsPlan plan) where
  meaning_end : (k : ℕ) → k < plan.count
      → end_at (meaning plan k) ≡ or_own (inputs_end (finals plan k)) (own_of plan k)
  unfolding end_at
  meaning_end k less = ap end_at (meaning_is plan k ok less)

  -- below b no stage refuses, so no end is a fault
  ends_closed : (b : ℕ) → ((k : ℕ) → k < b → own_of plan k ≡ Closed) → b ≤ plan.count
      → (n k : ℕ) → k < n → k < b → end_at (meaning plan k) ≡ Closed
  ends_closed b own within zero k h less = absurd (omega arith)
  ends_closed b own within (suc n) k h less =
      let lessc : k < plan.count = omega arith in
      meaning_end k lessc
      ∙ ap (λ e. or_own e (own_of plan k))
      (inputs_closed (meaning plan) (λ s. s < k)
      (λ s t. ends_closed b own within n s (omega arith) (omega arith))
      (plan.stage k).sources (ok.below k lessc))
      ∙ own k less

  -- no stage refuses by a lower-numbered fault than this one
  module _ (q : Fault) (own : (k : ℕ) → k < plan.count → AtLeast q (own_of plan k)) where
    ends_least : (n k : ℕ) → k < n → k < plan.count → AtLeast q (end_at (meaning plan k))
    ends_least zero k h less = absurd (omega arith)
    ends_least (suc n) k h less =
        subst (AtLeast q) (sym (meaning_end k less))
        (or_least q _ _
        (inputs_least (meaning plan) (λ s. s < k) q
        (λ s b. ends_least n s (omega arith) (omega arith))
        (plan.stage k).sources (ok.below k less))
        (own k less))

    -- it is passed on to the last stage
    passes_up : IsNumbered plan → (n k : ℕ) → plan.count ≤ k + n → k < plan.count
        → end_at (meaning plan k) ≡ Broken q → end_at (meaning plan (last plan)) ≡ Broken q
    passes_up num zero k h less e = absurd (omega arith)
    passes_up num (suc n) k h less e =
        ⊎_elim
        (λ more.
        let r = num.read k more in
        let up = r.later in
        let within = r.within in
        let hit = inputs_hit (meaning plan) (λ s. s < r.reader) q
        (λ s b. ends_least r.reader s b (omega arith))
        (plan.stage r.reader).sources r.place k (ok.below r.reader within) r.is_there e in
        passes_up num n r.reader (omega arith) within
        (meaning_end r.reader within
        ∙ or_hit _ (own_of plan r.reader) (Broken q) hit (fault_not q)))
        (λ top.
        subst (λ j. end_at (meaning plan j) ≡ Broken q) (last_is plan.count k less top) e)
        (cases_lt (k + 1) plan.count)

  told_at : IsNumbered plan → (e : End) → first_fault plan plan.count ≡ e
      → end_at (meaning plan (last plan)) ≡ e
  told_at num Closed h = grind (arith, nat_tests, last_less, ends_closed, first_closed)
  told_at num (Broken q) h =
      let f = first_broken plan plan.count q h in
      let less = f.less in
      let i = f.k in
      let is : q.stage ≡ i + 1 = num.number i q less f.here in
      let own : (k : ℕ) → k < plan.count → AtLeast q (own_of plan k) =
      grind (arith, nat_tests, own_least, cases_lt) in
      let inner : inputs_end (finals plan i) ≡ Closed =
      inputs_closed (meaning plan) (λ s. s < i)
      (λ s t. ends_closed i f.before (omega arith) i s t t)
      (plan.stage i).sources (ok.below i less) in
      passes_up q own num plan.count i (omega arith) less
      (meaning_end i less ∙ ap (λ x. or_own x (own_of plan i)) inner ∙ f.here)

-- the fault that is told is the first one met by evaluating the stages in order
pub whose_fault : {R : Type 0} → WhoseFault R
whose_fault {R} plan ok num =
    let less = last_less plan.count ok.some in
    ap (λ (f : Flow R). f.end) (meaning_is plan (last plan) ok less)
    ∙ ap Some (sym (meaning_end plan ok (last plan) less)
    ∙ told_at plan ok num (first_fault plan plan.count) refl)
