-- What holds of all links at once, and that each turn keeps it.
use Rattle.std.proofs.lemmas.Grind.{common_steps}
use Rattle.std.proofs.Common.{◌≡◌, ℕ, zero, suc, ◌+◌, ◌<◌, true, List, [], ◌∷◌, is_none, refl, sym}
use Rattle.std.proofs.Common.{ap, ◌∙◌, subst, ⊎_elim, arith}
use Rattle.std.proofs.lemmas.Bool.{cases_eq, and_parts}
use Rattle.std.proofs.lemmas.Option.{none-some}
use Rattle.std.proofs.lemmas.List.{length-map}
use Rattle.hum_turns.specs.Flow.{Flow, Later}
use Rattle.hum_turns.specs.Plan.{AreInputs, Onward, Plan, IsPlan}
use Rattle.hum_turns.specs.Links.{Link, view, Moment, IsOpening, Same, inputs}
use Rattle.hum_turns.specs.Turns.{State, Gives, Reads, Takes, Ends, stage_state, state, ready}
use Rattle.hum_turns.specs.Turns.{Becomes, Does, HasRead, Turns, Step, Run}
use Rattle.hum_turns.proofs.Fronts.{later_refl, later_each, fine_map}
use Rattle.hum_turns.proofs.Good.{GoodAt, kept_good, gives_good, takes_good, ends_good, reads_good}
use Rattle.hum_turns.proofs.Good.{later_taken, fine_view, fine_popped}
use Rattle.hum_turns.proofs.States.{Allowed, state_is, source_ready, ready_allows, reads_source}
use Rattle.hum_turns.proofs.States.{read_allowed}

-- Each stage's link is good for what the stage has had of its sources.
abbrev pub Inv : {R : Type 0} → Plan R → ℕ → Moment R → Type 0
Inv plan size m =
    (k : ℕ) → k < plan.count → GoodAt (plan.stage k) size (m k) (inputs plan m k)

-- where one link goes on, each does
views_later : {R : Type 0} (k : ℕ) (l : Link R) (old new : Moment R) → Becomes k l old new
    → Later (view (old k)) (view l) → (s : ℕ) → Later (view (old s)) (view (new s))
views_later = grind (arith, common_steps)

-- nothing has moved
pub opening_good : {R : Type 0} (plan : Plan R) (size : ℕ) (m : Moment R) → IsOpening m
    → Inv plan size m
opening_good plan size m start k less =
    subst (λ l. GoodAt (plan.stage k) size l (inputs plan m k)) (sym (start k))
    (record {
      sent = (_, refl);
      marked = λ e h. absurd (none-some e h);
      heard = λ e h. absurd (none-some e h);
      room = omega arith;
      within = omega arith;
    })

module _ {R : Type 0} (plan : Plan R) (size : ℕ) (ok : IsPlan plan) where
  -- what the readers have had is fine, by induction over the stages
  fine_below : (m : Moment R) → Inv plan size m → (n s : ℕ) → s < n → s + 1 < plan.count
      → plan.fine (view (m s)) ≡ true
  fine_below m inv zero s h less = absurd (omega arith)
  fine_below m inv (suc n) s h less =
      let ss = (plan.stage s).sources in
      fine_view (ok.lawful s (omega arith)) (ok.keeps s less) size (m s) (inputs plan m s)
      (record {
        count = length-map ss (λ t. view (m t));
        each = fine_map (λ t. view (m t)) (λ t. t < s) plan.fine
            (λ t b. fine_below m inv n t (omega arith) (omega arith)) ss (ok.below s (omega arith));
      })
      (inv s (omega arith))

  pub fine_each : (m : Moment R) (s : ℕ) → Inv plan size m → s + 1 < plan.count
      → plan.fine (view (m s)) ≡ true
  fine_each m s inv less = fine_below m inv (suc s) s (omega arith) less

  pub are_inputs : (m : Moment R)
      → ((s : ℕ) → s + 1 < plan.count → plan.fine (view (m s)) ≡ true)
      → (k : ℕ) → k < plan.count → AreInputs plan.fine (plan.stage k) (inputs plan m k)
  are_inputs m each k less = record {
    count = length-map (plan.stage k).sources (λ t. view (m t));
    each = fine_map (λ t. view (m t)) (λ t. t < k) plan.fine (λ t b. each t (omega arith))
        (plan.stage k).sources (ok.below k less);
  }

  pub fine_inputs : (m : Moment R) (k : ℕ) → Inv plan size m → k < plan.count
      → AreInputs plan.fine (plan.stage k) (inputs plan m k)
  fine_inputs m k inv less = are_inputs m (λ s more. fine_each m s inv more) k less

  -- a turn changes one link, and only lets it go on
  one_link : (k : ℕ) (l : Link R) (old new : Moment R) → Inv plan size old → Becomes k l old new
      → Later (view (old k)) (view l) → (k + 1 < plan.count → plan.fine (view l) ≡ true)
      → (k < plan.count → (b : List (Flow R)) → Onward plan.fine (plan.stage k) (inputs plan old k) b
      → GoodAt (plan.stage k) size l b)
      → Inv plan size new
  one_link k l old new inv d h fine good i less =
      let later = views_later k l old new d h in
      let each : (s : ℕ) → s + 1 < plan.count → plan.fine (view (new s)) ≡ true = λ s lesss.
      ⊎_elim
      (λ here. subst (λ j. plan.fine (view (new j)) ≡ true) (sym here)
      (ap (λ v. plan.fine (view v)) d.here
      ∙ fine (subst (λ j. j + 1 < plan.count) here lesss)))
      (λ there. ap (λ v. plan.fine (view v)) (d.elsewhere s there) ∙ fine_each old s inv lesss)
      (cases_eq s k) in
      let on : (j : ℕ) → j < plan.count
      → Onward plan.fine (plan.stage j) (inputs plan old j) (inputs plan new j)
      = λ j lessj. record {
        before = fine_inputs old j inv lessj;
        after = are_inputs new each j lessj;
        later = later_each (λ s. view (old s)) (λ s. view (new s)) later (plan.stage j).sources;
      } in
      ⊎_elim
      (λ same.
      let lessk : k < plan.count = subst (λ j. j < plan.count) same less in
      let at : GoodAt (plan.stage k) size (new k) (inputs plan new k) =
      subst (λ v. GoodAt (plan.stage k) size v (inputs plan new k)) (sym d.here)
      (good lessk (inputs plan new k) (on k lessk)) in
      subst (λ j. GoodAt (plan.stage j) size (new j) (inputs plan new j)) (sym same) at)
      (λ other.
      subst (λ v. GoodAt (plan.stage i) size v (inputs plan new i)) (sym (d.elsewhere i other))
      (kept_good (ok.lawful i less) size (old i) (inputs plan old i) (inputs plan new i)
      (on i less) (inv i less)))
      (cases_eq i k)

  -- what an actor does in its state
  does_keeps : (k : ℕ) (s : State) (old new : Moment R) → Inv plan size old
      → (k < plan.count → stage_state (plan.stage k) (old k) (inputs plan old k) ≡ s)
      → Allowed size old k s → Does plan k s old new → Inv plan size new
  does_keeps k Gives old new inv st may d =
      one_link k _ old new inv d.becomes (later_refl (view (old k))) (λ less. fine_each old k inv less)
      (λ less b on. gives_good (ok.lawful k less) size (old k) (inputs plan old k) b d.next on
      (inv k less) d.is_next may)
  does_keeps k Reads old new inv st may d =
      one_link k (old k) old new inv (record { here = d k; elsewhere = λ i _. d i })
      (later_refl (view (old k))) (λ less. fine_each old k inv less)
      (λ less b on. kept_good (ok.lawful k less) size (old k) (inputs plan old k) b on (inv k less))
  does_keeps k (Takes s) old new inv st may d =
      one_link s _ old new inv d (later_taken (old s) may)
      (λ less. fine_popped (ok.lawful s (omega arith)) (ok.keeps s less) size (old s)
      (inputs plan old s) (and_parts _ _ may).0
      (fine_inputs old s inv (omega arith)) (inv s (omega arith)))
      (λ less b on. takes_good (ok.lawful s less) size (old s) (inputs plan old s) b on
      (inv s less) may)
  does_keeps k Ends old new inv st may d =
      one_link k _ old new inv d (later_refl (view (old k))) (λ less. fine_each old k inv less)
      (λ less b on. ends_good (ok.lawful k less) size (old k) (inputs plan old k) b on
      (inv k less) may (st less))

  reads_keeps : (k : ℕ) (old new : Moment R) → Inv plan size old → is_none (old k).mark ≡ true
      → HasRead plan k old new → Inv plan size new
  reads_keeps k old new inv unset d =
      one_link k _ old new inv d.becomes (later_refl (view (old k)))
      (λ less. fine_each old k inv less)
      (λ less b on. reads_good (ok.lawful k less) size (old k) (inputs plan old k) b d.upto on
      (inv k less) unset d.more d.within)

  pub same_keeps : (old new : Moment R) → Same old new → Inv plan size old → Inv plan size new
  same_keeps old new same inv =
      does_keeps plan.count Reads old new inv (λ less. absurd (omega arith)) tt same

  -- a turn
  turns_keep : (k : ℕ) (s : State) (old new : Moment R) → Inv plan size old → state plan old k ≡ s
      → ready plan size old k ≡ true → Turns plan k s old new → Inv plan size new
  turns_keep k Gives old new inv e h t =
      does_keeps k Gives old new inv (λ less. sym (state_is plan old k less) ∙ e)
      (ready_allows plan ok size old k Gives h e) t
  turns_keep k (Takes s) old new inv e h t =
      does_keeps k (Takes s) old new inv (λ less. sym (state_is plan old k less) ∙ e)
      (ready_allows plan ok size old k (Takes s) h e) t
  turns_keep k Ends old new inv e h t =
      does_keeps k Ends old new inv (λ less. sym (state_is plan old k less) ∙ e)
      (ready_allows plan ok size old k Ends h e) t
  turns_keep k Reads old new inv e h t =
      let src = reads_source plan ok old k e in
      let r = source_ready plan size old k src h in
      let kept = reads_keeps k old t.between inv r.0 t.reads in
      ⊎_elim
      (λ stays. same_keeps t.between new stays.1 kept)
      (λ does. does_keeps k (state plan t.between k) t.between new kept
      (λ less. sym (state_is plan t.between k less))
      (read_allowed plan ok size old t.between k src h t.reads) does.1)
      t.does

  pub step_keeps : (k : ℕ) (old new : Moment R) → Inv plan size old → Step plan size k old new
      → Inv plan size new
  step_keeps k old new inv step =
      turns_keep k (state plan old k) old new inv refl step.is_ready step.turns

  -- a run
  pub run_keeps : (ks : List ℕ) (old new : Moment R) → Inv plan size old
      → Run plan size old ks new → Inv plan size new
  run_keeps [] old new inv run = same_keeps old new run inv
  run_keeps (k ∷ ks) old new inv run =
      run_keeps ks run.0 new (step_keeps k old run.0 inv run.1) run.2
