-- Each record that a stage of one input has taken was taken when the stage wanted it.
use Rattle.std.proofs.lemmas.Grind.{common_steps}
use Rattle.std.proofs.lemmas.Bool.Decides.{nat_tests}
use Rattle.std.proofs.Common.{◌≡◌, ◌≢◌, ℕ, ◌<◌, ◌≤◌, List, [], ◌∷◌, map, length}
use Rattle.std.proofs.Common.{take, slice_get, Some, is_some, refl, sym, ap, ◌∙◌, subst, arith, inl, inr}
use Rattle.std.proofs.Common.{append_assoc, length-append}
use Rattle.std.specs.List.{AllByRecursion}
use Rattle.std.proofs.lemmas.Bool.{cases_eq}
use Rattle.std.proofs.Math.Path.{fun_ext}
use Rattle.hum_score.specs.Row.{Row}
use Rattle.hum_score.specs.InOrder.{IsScore}
use Rattle.hum_stage.specs.Lag.{ArePutAtWants}
use Rattle.hum_stage.specs.Meaning.{Meaning, output}
use Rattle.hum_stage.specs.Outcome.{held_of as held_by}
use Rattle.hum_turns.specs.Flow.{Flow, AllFine}
use Rattle.hum_turns.specs.Plan.{Plan, IsPlan}
use Rattle.hum_turns.specs.Links.{Link, Moment, given, view, Same}
use Rattle.hum_turns.specs.Turns.{State, Gives, Reads, Takes, Ends, state, popped, Becomes, Does, Turns, Run}
use Rattle.hum_turns.proofs.States.{taker, last_next}
use Rattle.hum_turns.proofs.Keeping.{fine_inputs}
use Rattle.hum_turns.proofs.Every.{reached}
use Rattle.hum_nodes.specs.At.{Kind}
use Rattle.hum_nodes.specs.Fine.{fine}
use Rattle.hum_nodes.specs.Single.{single}
use Rattle.hum_nodes.proofs.Fining.{fine_is}
use Rattle.hum_engine.specs.Scene.{Scene, plan_of, held_of, IsReached}
use Rattle.hum_engine.proofs.Moving.{shows_same}
use Rattle.hum_engine.proofs.Taking.{popped_given}
use Rattle.hum_engine.proofs.Turning.{held_some}

-- Each record that was taken from link s was taken when as many had been given onto link k as were
-- settled of those before it.
abbrev Wanted : {R : Type 0} → (List R → ℕ) → ℕ → ℕ → Moment R → Type 0
Wanted many k s m =
    (j : ℕ) → j < length (m s).taken → many (take j (m s).taken) ≤ length (given (m k))

module _ {R : Type 0} (many : List R → ℕ) (k s : ℕ) where
  -- the same was taken, and no less given
  same_taken : (old new : Moment R) → (new s).taken ≡ (old s).taken
      → length (given (old k)) ≤ length (given (new k)) → Wanted many k s old → Wanted many k s new
  same_taken = grind (arith, nat_tests)

  nothing_moved : (old new : Moment R) → Same old new → Wanted many k s old → Wanted many k s new
  nothing_moved old new same = subst (Wanted many k s) (fun_ext (λ i. sym (same i)))

  -- a link is changed, from which nothing is taken, and onto which no less was given
  touched : (i : ℕ) (l : Link R) (old new : Moment R) → Becomes i l old new → l.taken ≡ (old i).taken
      → length (given (old i)) ≤ length (given l) → Wanted many k s old → Wanted many k s new
  touched = grind (arith, nat_tests)

  -- the next record is taken from link s
  take_here : (ws : List R) (old new : Moment R) → k ≢ s → Becomes s (popped (old s) ws) old new
      → many (old s).taken ≤ length (given (old k)) → Wanted many k s old → Wanted many k s new
  take_here = grind (arith, common_steps)

-- Stage k has one source, which no other stage has.
module _ {R : Type 0} (plan : Plan R) (ok : IsPlan plan) (many : List R → ℕ) (k s : ℕ)
    (less : k < plan.count) (below : s < k) (one : (plan.stage k).sources ≡ s ∷ [])
    (alone : (i p : ℕ) → i < plan.count → slice_get (plan.stage i).sources p ≡ Some s → i ≡ k)
    (counts : (r : ℕ) (f : Flow R) → length ((plan.stage k).output r (f ∷ [])) ≡ many f.items) where
  -- it has given all that is settled where it takes
  gave : (m : Moment R) → state plan m k ≡ Takes s → many (m s).taken ≤ length (given (m k))
  gave = grind (arith, nat_tests)

  takes_keep : (i t : ℕ) (old new : Moment R) → state plan old i ≡ Takes t
      → Becomes t (popped (old t) (old t).waiting) old new → Wanted many k s old
      → Wanted many k s new
  takes_keep i t old new e d h =
      elim (cases_eq t s) [
        | inl here ↦
            let by : state plan old i ≡ Takes s = e ∙ ap Takes here in
            let is : i ≡ k = elim (taker plan ok old i s by) [
              | inl w ↦ alone i w.1.place w.0 w.1.is_there
              | inr w ↦ absurd (omega (arith, w.1, last_next plan.count ok.some, less, below))
            ] in
            take_here many k s (old s).waiting old new (λ same. absurd (omega (arith, same, below))) (rw here at d)
            (gave old (rw is at by)) h
        | inr there ↦ grind (arith, nat_tests, shows_same, popped_given, same_taken)
      ]

  does_keeps : (i : ℕ) (st : State) (old new : Moment R) → state plan old i ≡ st
      → Does plan i st old new → Wanted many k s old → Wanted many k s new
  does_keeps = grind (arith, nat_tests, append_assoc, touched, length-append, nothing_moved, takes_keep)

  turns_keep : (i : ℕ) (st : State) (old new : Moment R) → state plan old i ≡ st
      → Turns plan i st old new → Wanted many k s old → Wanted many k s new
  turns_keep i Gives old new e t h = does_keeps i Gives old new e t h
  turns_keep i (Takes j) old new e t h = does_keeps i (Takes j) old new e t h
  turns_keep i Ends old new e t h = does_keeps i Ends old new e t h
  turns_keep i Reads old new e t h =
      let w = touched many k s i _ old t.between t.reads.becomes refl (omega arith) h in
      elim t.does [
        | inl stays ↦ nothing_moved many k s t.between new stays.1 w
        | inr does ↦ does_keeps i (state plan t.between i) t.between new refl does.1 w
      ]

  run_keeps : (size : ℕ) (is : List ℕ) (old new : Moment R) → Run plan size old is new
      → Wanted many k s old → Wanted many k s new
  run_keeps size [] old new run h = nothing_moved many k s old new run h
  run_keeps size (i ∷ is) old new run h =
      run_keeps size is run.0 new run.2 (turns_keep i (state plan old i) old run.0 refl run.1.turns h)

-- What waits inside a stage of one input is what its command holds of records that were put when it
-- wanted them.
pub held_few : (s : Scene) (k from most : ℕ) (m : Meaning) → IsReached s → k < s.count
    → s.kinds k ≡ single from m
    → (IsScore (s.links from).taken
    → ArePutAtWants m.outcomes (s.links from).taken (length (given (s.links k)))
    → held_by (length (given (s.links k))) (is_some (s.links from).heard) (m.outcomes (s.links from).taken) ≤ most)
    → held_of s s.links k ≤ most
held_few s k from most m r less is holds =
    let plan = plan_of s in
    let one : (s.kinds k).stage.sources ≡ from ∷ [] = ap (λ (kd : Kind). kd.stage.sources) is in
    let none : (s.kinds k).stage.bytes ≡ 0 = ap (λ (kd : Kind). kd.stage.bytes) is in
    let taken = (s.links from).taken in
    let count = length (given (s.links k)) in
    let below : AllByRecursion (λ j. j < k) (from ∷ []) = rw one at (r.ok.below k less) in
    let fine_in = (fine_inputs plan s.size r.ok s.links k
    (reached plan s.size r.turns r.first s.links r.ok r.start r.run) less).each in
    let score = fine_is 4294967295 (view (s.links from))
    (subst (λ ss. AllFine fine (map (λ t. view (s.links t)) ss)) one fine_in).0 in
    let wanted = run_keeps plan r.ok (λ rows. length (output m rows)) k from less below.0 one
    (λ i p l h. (r.tree i p k 0 from l less h (ap (λ ss. slice_get ss 0) one)).0)
    (λ b f. ap (λ (kd : Kind). length (kd.stage.output b (f ∷ []))) is) s.size r.turns r.first s.links r.run
    (λ j l. absurd (omega (arith, subst (λ (v : Link Row). j < length v.taken) (r.start from) l))) in
    let few = holds score.score wanted in
    let held : held_of s s.links k ≡ held_by count (is_some (s.links from).heard) (m.outcomes taken) =
    grind (arith, nat_tests, held_some) in
    omega (arith, few, held)
