-- Turns by the picks of an order.
use Rattle.std.proofs.lemmas.Grind.{common_steps}
use Rattle.std.proofs.lemmas.Bool.Decides.{nat_tests}
use Rattle.std.proofs.Common.{◌≡◌, ℕ, zero, suc, ◌+◌, ◌-◌, ◌<◌, ◌≤◌, Bool, true, false, List, []}
use Rattle.std.proofs.Common.{◌∷◌, ◌++◌, map, length, get_or, Option, None, is_some, is_none}
use Rattle.std.proofs.Common.{refl, sym, ap, ◌∙◌, ⊎_elim, arith}
use Rattle.std.proofs.lemmas.Bool.{false≢true, cases_lt, cases_Bool, and_from, cond-true}
use Rattle.std.proofs.lemmas.Bool.{cond-false}
use Rattle.std.proofs.lemmas.List.{length-map, map-append, get_or_append_left, get_or-append_right}
use Rattle.hum_stage.specs.declared.faults.End.{End}
use Rattle.hum_turns.specs.Plan.{Plan, last}
use Rattle.hum_turns.specs.declared.result.RunResult.{RunResult}
use Rattle.hum_turns.specs.Failures.{Now, ended_by, result, is_ready, Turn, Walk}
use Rattle.hum_turns.specs.Failures.{HoldsNow}
use Rattle.hum_turns.specs.Orders.{Order, upto, ready_list, first_true, chosen, choice, Driven}
use Rattle.hum_turns.specs.Orders.{EveryPick}
use Rattle.hum_turns.proofs.Writing.{every_turn, same_now, still}

-- A true entry is found.

first_is : (bs : List Bool) (k : ℕ) → get_or bs k false ≡ true
    → get_or bs (first_true bs) false ≡ true
first_is (false ∷ bs) (suc k) h = first_is bs k h
first_is bs k h = grind (arith, nat_tests)

pub chosen_is : (bs : List Bool) (p k : ℕ) → get_or bs k false ≡ true
    → get_or bs (chosen bs p) false ≡ true
chosen_is = grind (arith, nat_tests, ⊎_elim, get_or, cond-true, cond-false, first_is, cases_Bool)

length_upto : (n : ℕ) → length (upto n) ≡ n
length_upto zero = refl
length_upto (suc n) = grind (arith, common_steps, length_upto n)

past_none : (bs : List Bool) (k : ℕ) → length bs ≤ k → get_or bs k false ≡ false
past_none = grind (arith, common_steps)

module _ (f : ℕ → Bool) where
  length_map : (n : ℕ) → length (map f (upto n)) ≡ n
  length_map n = length-map (upto n) f ∙ length_upto n

  pub entry : (n k : ℕ) → k < n → get_or (map f (upto n)) k false ≡ f k
  entry zero k h = absurd (omega arith)
  entry (suc n) k h =
      let l = length_map n in
      ap (λ bs. get_or bs k false) (map-append f (upto n) (n ∷ []))
      ∙ ⊎_elim
      (λ less.
      get_or_append_left (map f (upto n)) (f n ∷ []) false k (omega arith) ∙ entry n k less)
      (λ past.
      let e : k ≡ n = omega arith in
      let z : k - n ≡ 0 = omega arith in
      get_or-append_right (map f (upto n)) (f n ∷ []) n k false l past
      ∙ ap (λ i. get_or (f n ∷ []) i false) z ∙ ap f (sym e))
      (cases_lt k n)

  pub entry_is : (n k : ℕ) → get_or (map f (upto n)) k false ≡ true → (k < n) × (f k ≡ true)
  entry_is = grind (arith, nat_tests, length_map, ⊎_elim, entry, false≢true, past_none, cases_lt)

-- Where an actor is ready, the choice is one that is.

module _ {R : Type 0} (plan : Plan R) (size : ℕ) (now : Now R) where
  pub chosen_ready : (pick k : ℕ) → k ≤ plan.count → is_ready plan size now k ≡ true
      → (chosen (ready_list plan size now) pick ≤ plan.count)
      × (is_ready plan size now (chosen (ready_list plan size now) pick) ≡ true)
  chosen_ready pick k within h =
      let f = is_ready plan size now in
      let n = plan.count + 1 in
      let at : get_or (map f (upto n)) k false ≡ true = entry f n k (omega arith) ∙ h in
      let i = entry_is f n (chosen (map f (upto n)) pick)
      (chosen_is (map f (upto n)) pick k at) in
      let less = i.0 in
      (omega arith, i.1)

  -- without a failure and before the sink's mark
  pub going_on : (f : Option RunResult) (e : Option End) → ended_by f e ≡ None → (f ≡ None) × (e ≡ None)
  going_on = grind (arith, nat_tests)

  pub goes_on : (turns : List ℕ) (bytes : R → List ℕ) (pick : ℕ) → HoldsNow plan size bytes turns now
      → result plan now ≡ None
      → (chosen (ready_list plan size now) pick ≤ plan.count)
      × (is_ready plan size now (chosen (ready_list plan size now) pick) ≡ true)
  goes_on turns bytes pick holds none =
      let n = going_on now.failure (now.links (last plan)).heard none in
      let some = (holds.holds n.0).1.progress (ap is_some n.1) in
      chosen_ready pick some.actor some.within
      (and_from _ _ (ap is_none none) some.is_ready)

module _ {R O : Type 0} (order : Order O) (plan : Plan R) (size : ℕ) (bytes : R → List ℕ) where
  -- what an order drives is one of all lists of turns
  pub driven_walk : (ks : List ℕ) (o p : O) (old new : Now R)
      → Driven order plan size bytes o old ks new p → Walk plan size bytes old ks new
  driven_walk [] o p old new d = d.0
  driven_walk (k ∷ ks) o p old new d =
      (d.0, d.2, driven_walk ks (order.next o (ready_list plan size old)) p d.0 new d.3)

  -- one turn more
  pub driven_more : (ks : List ℕ) (k : ℕ) (o p : O) (old between new : Now R)
      → Driven order plan size bytes o old ks between p → k ≡ choice order plan size p between
      → Turn plan size bytes k between new
      → Driven order plan size bytes o old (ks ++ k ∷ []) new
      (order.next p (ready_list plan size between))
  driven_more [] k o p old between new d e turn =
      grind (arith, nat_tests, still new, same_now old between d.0)
  driven_more (j ∷ ks) k o p old between new d e turn = (
    d.0,
    d.1,
    d.2,
    driven_more ks k (order.next o (ready_list plan size old)) p d.0 between new
        d.3 e turn,
  )

pub every_pick : {R O : Type 0} → EveryPick R O
every_pick order plan size bytes ok some turns first now o p start d =
    let walk = driven_walk order plan size bytes turns o p first now d in
    let holds = every_turn plan size bytes ok some turns first now start walk in
    record {
      holds = holds;
      goes_on = goes_on plan size now turns bytes (order.pick p (ready_list plan size now)) holds;
    }
