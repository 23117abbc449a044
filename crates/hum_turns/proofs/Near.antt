-- What is near a turn, and what code that makes a turn has to show.
use Rattle.std.proofs.lemmas.Bool.Decides.{nat_tests}
use Rattle.std.proofs.Common.{◌≡◌, ◌≢◌, ℕ, suc, ◌+◌, ◌<◌, ◌≤◌, inl, inr, true, ◌&&◌, List, [], ◌∷◌}
use Rattle.std.proofs.Common.{map, slice_get, Some, is_none, refl, sym, ap, ◌∙◌}
use Rattle.std.proofs.Common.{subst, ⊎_elim, arith}
use Rattle.std.proofs.lemmas.Bool.{cases_lt, cases_Bool, cond-true}
use Rattle.std.proofs.lemmas.Bool.{cond-false}
use Rattle.std.proofs.lemmas.Option.{none-some}
use Rattle.hum_turns.specs.Flow.{Flow}
use Rattle.hum_turns.specs.Plan.{Plan, last, IsPlan}
use Rattle.hum_turns.specs.Links.{Link, view, has_room, has_some, Moment, inputs}
use Rattle.hum_turns.specs.Turns.{State, Gives, Reads, Takes, Ends, stage_state, state, can}
use Rattle.hum_turns.specs.Turns.{is_source, ready, Becomes, Does, HasRead, Turns, Step}
use Rattle.hum_turns.specs.Near.{IsOneOf, LooksAt, touched, EveryTurnIsNear}
use Rattle.hum_turns.proofs.States.{state_is, sink_state, reads_less, ends_less, wanted}
use Rattle.hum_turns.proofs.States.{last_next, taker, source_less, reads_source}

-- What an actor doesn't look at it leaves alone.

module _ {R : Type 0} (plan : Plan R) (ok : IsPlan plan) where
  -- a stage changes its own link
  own_near : (k : ℕ) (l : Link R) (old new : Moment R) → k < plan.count → Becomes k l old new
      → (i : ℕ) → (LooksAt plan k i → ⊥) → new i ≡ old i
  own_near k l old new less d i far = d.elsewhere i (λ same. far (inl (less, inl same)))

  does_near : (k : ℕ) (s : State) (old new : Moment R) → state plan old k ≡ s → Does plan k s old new
      → (i : ℕ) → (LooksAt plan k i → ⊥) → new i ≡ old i
  does_near k Gives old new e d i far = grind (arith, nat_tests)
  does_near k Reads old new e d i far = d i
  does_near k (Takes s) old new e d i far =
      d.elsewhere i (λ same. ⊎_elim
      (λ w. far (inl (w.0, inr (w.1.place, w.1.is_there ∙ ap Some (sym same)))))
      (λ w. far (inr (w.0, same ∙ w.1)))
      (taker plan ok old k s e))
  does_near k Ends old new e d i far = own_near k _ old new (ends_less plan old k e) d i far

  turns_near : (k : ℕ) (s : State) (old new : Moment R) → state plan old k ≡ s
      → Turns plan k s old new → (i : ℕ) → (LooksAt plan k i → ⊥) → new i ≡ old i
  turns_near k Gives old new e t i far = does_near k Gives old new e t i far
  turns_near k (Takes s) old new e t i far = does_near k (Takes s) old new e t i far
  turns_near k Ends old new e t i far = does_near k Ends old new e t i far
  turns_near k Reads old new e t i far =
      ⊎_elim
      (λ stays. stays.1 i)
      (λ does. does_near k (state plan t.between k) t.between new refl does.1 i far) t.does
      ∙ own_near k _ old t.between (reads_less plan old k e) t.reads.becomes i far

-- Readiness, by the links that an actor looks at.

inputs_same : {R : Type 0} (old new : Moment R) (ss : List ℕ)
    → ((s : ℕ) → IsOneOf ss s → new s ≡ old s)
    → map (λ s. view (new s)) ss ≡ map (λ s. view (old s)) ss
inputs_same old new [] h = refl
inputs_same old new (s ∷ ss) h =
    ap (λ (l : Link _). view l ∷ map (λ s. view (new s)) ss) (h s (0, refl))
    ∙ ap (λ l. view (old s) ∷ l) (inputs_same old new ss (λ t p. h t (suc p.0, p.1)))

module _ {R : Type 0} (plan : Plan R) (ok : IsPlan plan) (size j : ℕ) (old new : Moment R)
    (same : (i : ℕ) → LooksAt plan j i → new i ≡ old i) where
  -- what the actor is about to do
  state_same : state plan new j ≡ state plan old j
  state_same =
      ⊎_elim
      (λ less.
      let st = plan.stage j in
      let own = same j (inl (less, inl refl)) in
      let ins : inputs plan new j ≡ inputs plan old j = grind (arith, nat_tests, inputs_same) in
      state_is plan new j less
      ∙ ap (λ l. stage_state st l (inputs plan new j)) own
      ∙ ap (stage_state st (old j)) ins
      ∙ sym (state_is plan old j less))
      (λ past. sink_state plan new j past ∙ sym (sink_state plan old j past))
      (cases_lt j plan.count)

  -- and whether it can
  can_same : (s : State) → state plan old j ≡ s → can size new j s ≡ can size old j s
  can_same Gives e = grind (arith, nat_tests)
  can_same Reads e = grind (arith, nat_tests)
  can_same (Takes s) e = grind (arith, nat_tests, taker plan ok old j s e)
  can_same Ends e = grind (arith, nat_tests)

  pub ready_same : ready plan size new j ≡ ready plan size old j
  ready_same =
      ⊎_elim
      (λ src.
      let own = same j (inl ((source_less plan j src).0, inl refl)) in
      cond-true _ _ _ src
      ∙ ap (λ (l : Link R). is_none l.mark && has_room size l) own
      ∙ sym (cond-true _ _ _ src))
      (λ other.
      cond-false _ _ _ other
      ∙ ap (can size new j) state_same
      ∙ can_same (state plan old j) refl
      ∙ sym (cond-false _ _ _ other))
      (cases_Bool (is_source plan j))

pub every_turn_is_near : {R : Type 0} → EveryTurnIsNear R
every_turn_is_near plan size k old new ok step =
    let links = turns_near plan ok k (state plan old k) old new refl step.turns in
    record {
      links = links;
      ready = λ j apart.
          ready_same plan ok size j old new (λ i at. links i (λ near. apart i near at));
    }

-- For code that makes turns.

module _ {R : Type 0} (plan : Plan R) (size k : ℕ) where
  -- who is ready, by its kind
  pub ready_sink : (m : Moment R) → plan.count ≤ k
      → ready plan size m k ≡ has_some (m (last plan))
  ready_sink = grind (arith, nat_tests)

  pub ready_reader : (m : Moment R) → k < plan.count → 0 < (plan.stage k).bytes
      → ready plan size m k ≡ (is_none (m k).mark && has_room size (m k))
  ready_reader = grind (arith, nat_tests)

  pub step_does : (s : State) (old new : Moment R) → k ≤ plan.count → ready plan size old k ≡ true
      → state plan old k ≡ s → (s ≡ Reads → ⊥) → Does plan k s old new → Step plan size k old new
  step_does = grind (arith, nat_tests)

  pub step_reads : (old between new : Moment R) → k ≤ plan.count → ready plan size old k ≡ true
      → state plan old k ≡ Reads → HasRead plan k old between → (old k).read + 1 ≡ (plan.stage k).bytes
      → Does plan k (state plan between k) between new → Step plan size k old new
  step_reads = grind (arith, nat_tests)

-- A turn of a stage takes nothing from the last link, and hears no end there.
module _ {R : Type 0} (plan : Plan R) (ok : IsPlan plan) (size k : ℕ) (less : k < plan.count) where
  -- a link that keeps what was taken and heard
  keeps_view : (l : Link R) (old new : Moment R) → Becomes k l old new → view l ≡ view (old k)
      → view (new (last plan)) ≡ view (old (last plan))
  keeps_view = grind (arith, nat_tests)

  does_view : (s : State) (old new : Moment R) → state plan old k ≡ s → Does plan k s old new
      → view (new (last plan)) ≡ view (old (last plan))
  does_view Gives old new e d = keeps_view _ old new d.becomes refl
  does_view Reads old new e d = ap view (d (last plan))
  does_view (Takes s) old new e d =
      grind (arith, nat_tests, wanted plan ok old k s less e, last_next plan.count ok.some)
  does_view Ends old new e d = keeps_view _ old new d refl

  turns_view : (s : State) (old new : Moment R) → state plan old k ≡ s → Turns plan k s old new
      → view (new (last plan)) ≡ view (old (last plan))
  turns_view Gives old new e t = does_view Gives old new e t
  turns_view (Takes s) old new e t = does_view (Takes s) old new e t
  turns_view Ends old new e t = does_view Ends old new e t
  turns_view Reads old new e t = grind (arith, nat_tests, ⊎_elim, does_view, keeps_view)

  pub step_view : (old new : Moment R) → Step plan size k old new
      → view (new (last plan)) ≡ view (old (last plan))
  step_view old new step = turns_view (state plan old k) old new refl step.turns

  pub step_taken : (old new : Moment R) → Step plan size k old new
      → (new (last plan)).taken ≡ (old (last plan)).taken
  step_taken old new step = ap (λ (f : Flow R). f.items) (step_view old new step)

  pub step_heard : (old new : Moment R) → Step plan size k old new
      → (new (last plan)).heard ≡ (old (last plan)).heard
  step_heard old new step = ap (λ (f : Flow R). f.end) (step_view old new step)

-- A turn changes one link, and who doesn't look at it is as ready as before.
module _ {R : Type 0} (plan : Plan R) (ok : IsPlan plan) (size k : ℕ) where
  does_touches : (s : State) (old new : Moment R) → Does plan k s old new
      → (i : ℕ) → i ≢ touched k s → new i ≡ old i
  does_touches = grind (arith, nat_tests)

  -- a stage that reads bytes takes from no other
  no_source : (m : Moment R) → is_source plan k ≡ true → (s : State) → state plan m k ≡ s
      → touched k s ≡ k
  no_source m src Gives e = refl
  no_source m src Reads e = refl
  no_source m src Ends e = refl
  no_source m src (Takes s) e =
      let less = source_less plan k src in
      let w = wanted plan ok m k s less.0 e in
      let none = (ok.lawful k less.0).apart less.1 in
      absurd (none-some s (sym (ap (λ l. slice_get l w.place) none) ∙ w.is_there))

  pub source_touches : (m : Moment R) → is_source plan k ≡ true
      → touched k (state plan m k) ≡ k
  source_touches m src = no_source m src (state plan m k) refl

  turns_touch : (s : State) (old new : Moment R) → state plan old k ≡ s → Turns plan k s old new
      → (i : ℕ) → i ≢ touched k s → new i ≡ old i
  turns_touch Gives old new e t i other = does_touches Gives old new t i other
  turns_touch (Takes s) old new e t i other = does_touches (Takes s) old new t i other
  turns_touch Ends old new e t i other = does_touches Ends old new t i other
  turns_touch Reads old new e t i other =
      let src = reads_source plan ok old k e in
      ⊎_elim
      (λ stays. stays.1 i)
      (λ does. does_touches (state plan t.between k) t.between new does.1 i
      (λ is. other (is ∙ source_touches t.between src)))
      t.does
      ∙ t.reads.becomes.elsewhere i other

  pub step_touches : (old new : Moment R) → Step plan size k old new
      → (i : ℕ) → i ≢ touched k (state plan old k) → new i ≡ old i
  step_touches old new step i other = turns_touch (state plan old k) old new refl step.turns i other

  pub ready_untouched : (old new : Moment R) → Step plan size k old new → (j : ℕ)
      → (LooksAt plan j (touched k (state plan old k)) → ⊥)
      → ready plan size new j ≡ ready plan size old j
  ready_untouched old new step j far =
      ready_same plan ok size j old new
      (λ i at. step_touches old new step i
      (λ is. far (subst (LooksAt plan j) is at)))
