-- Until the run is over some actor is ready, and a ready actor has a turn.
use Rattle.std.proofs.lemmas.Grind.{common_steps}
use Rattle.std.proofs.lemmas.Bool.Decides.{nat_tests}
use Rattle.std.proofs.Common.{◌≡◌, ℕ, zero, suc, ◌+◌, ◌<◌, ◌≤◌, true, false}
use Rattle.std.proofs.Common.{if◌then◌else◌, nat_lt, nat_eq, [], length, slice_get}
use Rattle.std.proofs.Common.{Some, None, is_none, refl, ap, ◌∙◌, ⊎_elim}
use Rattle.std.proofs.Common.{arith, le-ltb, lt-ltb, inl, inr}
use Rattle.std.proofs.lemmas.Bool.{cases_Bool, and_left}
use Rattle.std.proofs.Math.Nat.{eq-or-lt_of_le}
use Rattle.std.proofs.lemmas.Option.{slice_get_cases}
use Rattle.hum_turns.specs.Plan.{Plan, last, IsPlan}
use Rattle.hum_turns.specs.Links.{Link, given, has_room, has_some, Moment, settled, is_over}
use Rattle.hum_turns.specs.Turns.{State, Gives, Reads, Takes, Ends, state, is_source, ready}
use Rattle.hum_turns.specs.Turns.{Becomes, pushed, popped, marked, Does, HasRead, Turns}
use Rattle.hum_turns.specs.Holds.{SomeReady, HasTurn}
use Rattle.hum_turns.proofs.Fronts.{is_unset}
use Rattle.hum_turns.proofs.States.{last_less, sink_state, gives_more, reads_less, reads_bytes}
use Rattle.hum_turns.proofs.States.{wanted, ready_source, ready_other}

-- Progress: who wants from an empty link waits for a lower stage, and so on down to a source.

-- a link that has nothing, and whose end wasn't heard
is_empty : {R : Type 0} (l : Link R) → l.heard ≡ None → has_some l ≡ false
    → (l.waiting ≡ []) × (l.mark ≡ None)
is_empty = grind (arith, common_steps)

empty_room : {R : Type 0} (size : ℕ) (l : Link R) → 0 < size → l.waiting ≡ []
    → has_room size l ≡ true
empty_room size l some e = ap (λ ws. nat_lt (length ws) size) e ∙ lt-ltb 0 size some

module _ {R : Type 0} (plan : Plan R) (ok : IsPlan plan) (size : ℕ) (some : 0 < size)
    (m : Moment R) where
  it_is : (k : ℕ) → k ≤ plan.count → ready plan size m k ≡ true → SomeReady plan size m
  it_is k within h = record { actor = k; within = within; is_ready = h }

  -- where a stage's link is empty and has no mark, the stage is ready, or a lower one is
  by_state : (k : ℕ) → k < plan.count → (m k).waiting ≡ [] → (m k).mark ≡ None
      → is_source plan k ≡ false
      → ((j : ℕ) → j < k → (m j).waiting ≡ [] → (m j).mark ≡ None → SomeReady plan size m)
      → (s : State) → state plan m k ≡ s → SomeReady plan size m
  by_state k less w u other below Gives e =
      it_is k (omega arith)
      (ready_other plan size m k Gives other e (empty_room size (m k) some w))
  by_state k less w u other below Reads e = grind (arith, nat_tests)
  by_state k less w u other below Ends e =
      it_is k (omega arith) (ready_other plan size m k Ends other e (ap is_none u))
  by_state k less w u other below (Takes s) e =
      let f = wanted plan ok m k s less e in
      ⊎_elim
      (λ has. it_is k (omega arith) (ready_other plan size m k (Takes s) other e has))
      (λ lacks. let n = is_empty (m s) f.unheard lacks in below s f.below n.0 n.1)
      (cases_Bool (has_some (m s)))

  never_stuck : (n k : ℕ) → k < n → k < plan.count → (m k).waiting ≡ [] → (m k).mark ≡ None
      → SomeReady plan size m
  never_stuck zero k less lessc w u = absurd (omega arith)
  never_stuck (suc n) k less lessc w u =
      ⊎_elim
      (λ src. it_is k (omega arith)
      (ready_source plan size m k src (ap is_none u) (empty_room size (m k) some w)))
      (λ other. by_state k lessc w u other
      (λ j lessj. never_stuck n j (omega arith) (omega arith)) (state plan m k) refl)
      (cases_Bool (is_source plan k))

  pub progress : is_over plan m ≡ false → SomeReady plan size m
  progress h =
      let new = is_unset (m (last plan)).heard h in
      let least : last plan < plan.count = last_less plan.count ok.some in
      let count = plan.count in
      let sink = and_left _ _ (le-ltb count count (omega arith)) in
      ⊎_elim
      (λ has. it_is count (omega arith)
      (ready_other plan size m count (Takes (last plan)) sink
      (sink_state plan m count (omega arith)) has))
      (λ lacks.
      let n = is_empty (m (last plan)) new lacks in
      never_stuck count (last plan) (omega arith) (omega arith) n.0 n.1)
      (cases_Bool (has_some (m (last plan))))

-- A ready actor has a turn.

put_at : {R : Type 0} → Moment R → ℕ → Link R → Moment R
put_at m k l = λ i. if nat_eq i k then l else m i

put_becomes : {R : Type 0} (m : Moment R) (k : ℕ) (l : Link R) → Becomes k l m (put_at m k l)
unfolding put_at
put_becomes = grind (arith, nat_tests)

next_given : {R : Type 0} (plan : Plan R) (m : Moment R) (k : ℕ) → state plan m k ≡ Gives
    → (x : R) × (slice_get (settled plan m k) (length (given (m k))) ≡ Some x)
next_given plan m k e =
    grind (arith, nat_tests, gives_more plan m k e, slice_get_cases (settled plan m k) (length (given (m k))))

does_exist : {R : Type 0} (plan : Plan R) (k : ℕ) (s : State) (m : Moment R) → state plan m k ≡ s
    → (new : Moment R) × Does plan k s m new
does_exist plan k Gives m e =
    let n = next_given plan m k e in
    let l = pushed (m k) n.0 in
    (put_at m k l, record { next = n.0; is_next = n.1; becomes = put_becomes m k l })
does_exist plan k Reads m e = (m, λ i. refl)
does_exist plan k (Takes s) m e =
    let l = popped (m s) (m s).waiting in (put_at m s l, put_becomes m s l)
does_exist plan k Ends m e = let l = marked plan m k in (put_at m k l, put_becomes m k l)

turns_exist : {R : Type 0} (plan : Plan R) (k : ℕ) (s : State) (m : Moment R) → IsPlan plan
    → state plan m k ≡ s → (new : Moment R) × Turns plan k s m new
turns_exist plan k Gives m ok e = does_exist plan k Gives m e
turns_exist plan k (Takes s) m ok e = does_exist plan k (Takes s) m e
turns_exist plan k Ends m ok e = does_exist plan k Ends m e
turns_exist plan k Reads m ok e =
    let n = (m k).read + 1 in
    let l = record (m k) { read = n } in
    let between = put_at m k l in
    let d = does_exist plan k (state plan between k) between refl in
    let r = reads_bytes plan ok m k (reads_less plan m k e) e in
    let reads : HasRead plan k m between = grind (arith, nat_tests, put_becomes) in
    ⊎_elim
    (λ last. (d.0, record { between = between; reads = reads; does = inr (last, d.1) }))
    (λ less. (between, record { between = between; reads = reads; does = inl (less, λ i. refl) }))
    (eq-or-lt_of_le reads.within)

pub goes : {R : Type 0} (plan : Plan R) (size : ℕ) (m : Moment R) (k : ℕ) → IsPlan plan
    → k ≤ plan.count → ready plan size m k ≡ true → HasTurn plan size m k
goes plan size m k ok within h =
    let t = turns_exist plan k (state plan m k) m ok refl in
    record { next = t.0; step = record { within = within; is_ready = h; turns = t.1 } }
