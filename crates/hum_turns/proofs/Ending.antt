-- How runs end.
use Rattle.std.proofs.lemmas.Bool.Decides.{nat_tests}
use Rattle.std.proofs.Common.{◌≡◌, ℕ, zero, suc, ◌+◌, ◌<◌, ◌⊎◌, inl, false, List, [], ◌∷◌}
use Rattle.std.proofs.Common.{◌++◌, length, Option, Some, None, refl}
use Rattle.std.proofs.Common.{⊎_elim, arith, length-append}
use Rattle.std.proofs.lemmas.Bool.{cases_Bool, and_parts}
use Rattle.std.proofs.lemmas.Option.{none-some, same_Some}
use Rattle.hum_stage.specs.declared.faults.End.{End}
use Rattle.hum_turns.specs.Plan.{Plan, last, IsPlan}
use Rattle.hum_turns.specs.Meaning.{IsNumbered}
use Rattle.hum_turns.specs.Links.{is_over}
use Rattle.hum_turns.specs.declared.result.RunResult.{RunResult}
use Rattle.hum_turns.specs.Failures.{Now, result_of, IsFailure, ended_by, result, Turn, IsFirst}
use Rattle.hum_turns.specs.Failures.{HoldsNow}
use Rattle.hum_turns.specs.Counts.{bound}
use Rattle.hum_turns.specs.Orders.{Order, ready_list, choice, Driven}
use Rattle.hum_turns.specs.Ends.{EndsAsMeant, EveryEnd, LeadsToEnd, EveryOrderEnds}
use Rattle.hum_turns.proofs.Faults.{whose_fault}
use Rattle.hum_turns.proofs.Writing.{every_turn, still}
use Rattle.hum_turns.proofs.Picking.{every_pick, driven_more}

-- As the plan means, or by a failure.

module _ {R : Type 0} (plan : Plan R) (size : ℕ) (bytes : R → List ℕ) (ok : IsPlan plan)
    (num : IsNumbered plan) (turns : List ℕ) (now : Now R)
    (holds : HoldsNow plan size bytes turns now) where
  as_meant : (e : End) → now.failure ≡ None → (now.links (last plan)).heard ≡ Some e
      → EndsAsMeant plan bytes now (result_of e)
  as_meant = grind (arith, nat_tests, same_Some, whose_fault)

  ends_by : (f : Option RunResult) (h : Option End) → now.failure ≡ f
      → (now.links (last plan)).heard ≡ h → (by : RunResult) → ended_by f h ≡ Some by
      → IsFailure by ⊎ EndsAsMeant plan bytes now by
  ends_by (Some x) h f e by is = grind (arith, nat_tests)
  ends_by None (Some x) f e by is = grind (arith, nat_tests, same_Some, as_meant)
  ends_by None None f e by is = absurd (none-some by is)

pub every_end : {R : Type 0} → EveryEnd R
every_end plan size bytes ok num some turns first now start walk by is =
    ends_by plan size bytes ok num turns now
    (every_turn plan size bytes ok some turns first now start walk)
    now.failure (now.links (last plan)).heard refl refl by is

-- Every order goes on to the end, since its turns are bounded.

still_open : {R : Type 0} (plan : Plan R) (now : Now R) → now.failure ≡ None
    → is_over plan now.links ≡ false → result plan now ≡ None
still_open = grind (arith, nat_tests)

module _ {R O : Type 0} (order : Order O) (plan : Plan R) (size : ℕ) (bytes : R → List ℕ)
    (ok : IsPlan plan) (some : 0 < size) (first : Now R) (o : O) (start : IsFirst first) where
  ends_from : (fuel : ℕ) (ks : List ℕ) (now : Now R) (p : O)
      → Driven order plan size bytes o first ks now p → now.failure ≡ None
      → bound plan < length ks + fuel → LeadsToEnd order plan size bytes o first
  ends_from zero ks now p d none more = grind (arith, nat_tests, every_pick)
  ends_from (suc fuel) ks now p d none more =
      ⊎_elim
      (λ over. record {
        turns = ks;
        now = now;
        after = p;
        driven = d;
        failure = none;
        over = over;
      })
      (λ goes.
      let leads = every_pick order plan size bytes ok some ks first now o p start d in
      let k = choice order plan size p now in
      let left : bound plan < length (ks ++ k ∷ []) + fuel = grind (arith, nat_tests, length-append) in
      let next = leads.goes_on (still_open plan now none goes) in
      let turn = (leads.holds.holds none).1.goes k next.0 (and_parts _ _ next.1).1 in
      let after : Now R = record { links = turn.next; part = []; failure = None } in
      let one : Turn plan size bytes k now after = record {
        is_ready = next.1;
        turns = inl (record { step = turn.step; part = refl; failure = refl });
      } in
      ends_from fuel (ks ++ k ∷ []) after (order.next p (ready_list plan size now))
      (driven_more order plan size bytes ks k o p first now after d refl one) refl left)
      (cases_Bool (is_over plan now.links))

pub every_order_ends : {R O : Type 0} → EveryOrderEnds R O
every_order_ends order plan size bytes ok some first o start =
    ends_from order plan size bytes ok some first o start (bound plan + 1) [] first o
    (still first, refl) start.failure (omega arith)
