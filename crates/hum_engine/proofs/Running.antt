-- Turns that an order drives, and what they lead to.
use Rattle.std.proofs.lemmas.Bool.Decides.{nat_tests}
use Rattle.std.proofs.Common.{◌≡◌, ◌∙◌, ℕ, ◌+◌, ◌<◌, ◌≤◌, Bool, true, false, List, [], ◌∷◌, ◌++◌, map, length, length-set, take}
use Rattle.std.proofs.Common.{Option, Some, None, refl, sym, ap, subst, arith, ⊎_elim, add-one, slice_set, get_or}
use Rattle.std.proofs.Common.{suc, Vec, Global}
use Rattle.std.specs.Prelude.{is_some, IfSome}
use Rattle.std.proofs.lemmas.Bool.{and_from}
use Rattle.std.proofs.Math.Seq.{take-suc-set}
use Rattle.std.proofs.lemmas.List.{map-append}
use Rattle.std.specs.Io.KnownBytes.{Appends}
use Rattle.hum_text.specs.declared.calls.Sink.{Ghosts as Sink}
use Rattle.hum_score.specs.Row.{Row, text_of}
use Rattle.hum_stage.specs.declared.faults.End.{End}
use Rattle.hum_stage.specs.declared.faults.End.TheVariants.{Closed, Broken}
use Rattle.hum_stage.specs.declared.contract.Stage.{Ghosts as Stage}
use Rattle.hum_turns.specs.declared.result.RunResult.{RunResult}
use Rattle.hum_turns.specs.declared.result.RunResult.TheVariants as ends
use Rattle.hum_turns.specs.Plan.{last}
use Rattle.hum_turns.specs.Meaning.{plan_meaning}
use Rattle.hum_turns.specs.Failures.{Now, HoldsNow, ended_by, result, written, is_ready}
use Rattle.hum_turns.specs.Orders.{Order, upto, some_true, ready_list, chosen, Driven}
use Rattle.hum_turns.specs.Holds.{SomeReady}
use Rattle.hum_turns.proofs.Writing.{every_turn}
use Rattle.hum_turns.proofs.Picking.{going_on, goes_on, entry}
use Rattle.hum_turns.proofs.Ending.{every_end}
use Rattle.hum_turns.proofs.Against.{meaning_fine}
use Rattle.hum_nodes.proofs.Fining.{fine_is}
use Rattle.hum_engine.specs.declared.net.Net.{Net}
use Rattle.hum_engine.specs.Looks.{Look, Sees}
use Rattle.hum_engine.specs.Scene.{Scene, plan_of, moved, Stands}
use Rattle.hum_engine.specs.Nets.{NetAt, AtEach, AreOver, IsRunning, IsNet, Leads, RunsTo, Outcome, WroteFront, WroteAll}
use Rattle.hum_engine.proofs.Netting.{unfailed_now}
use Rattle.hum_engine.proofs.Looking.{AnyReady}

pub at_some : {A : Type 0} (P : A → Type 0) (o : Option A) (x : A) → o ≡ Some x → IfSome o P → P x
at_some = grind (arith, nat_tests)

-- what an order drives, and what it drives then
pub driven_on : {O : Type 0} (order : Order O) (s : Scene) (ks js : List ℕ) (o p q : O) (old mid new : Now Row)
    → Driven order (plan_of s) s.size text_of o old ks mid p
    → Driven order (plan_of s) s.size text_of p mid js new q
    → Driven order (plan_of s) s.size text_of o old (ks ++ js) new q
driven_on {O} order s [] js o p q old mid new d e = grind (arith, nat_tests)
driven_on order s (k ∷ ks) js o p q old mid new d e =
    let rest = driven_on order s ks js (order.next o (ready_list (plan_of s) s.size old)) p q d.0 mid new d.3 e in
    (d.0, d.1, d.2, rest)

pub no_rests : {S R W : Type 0} (net : Net S R W) → AreOver net.web.nodes.items (λ i. [])
no_rests net i e = refl

-- What is known of who is ready hangs on no bytes that are still to come.
pub seen : (look : Look) (s : Scene) (rests : ℕ → List ℕ) (now : Now Row) → Sees look s now
    → Sees look (record s { rests = rests }) now
seen = grind (arith, nat_tests)

pub some_at : (bs : List Bool) (k : ℕ) → get_or bs k false ≡ true → some_true bs ≡ true
some_at (b ∷ bs) (suc k) h = grind (arith, some_at bs k h)
some_at bs k h = grind (arith, nat_tests)

-- The flags of the actors before this one are set.
pub record Marked {S R W : Type 0} (stage : Stage S) (writer : Sink W)
    (k : ℕ) (old new : Net S R W) : Type 0 where
  pub same : new ≡ record old { actors = new.actors }
  pub len : length new.actors.items ≡ length old.actors.items
  pub so_far : AtEach stage writer old (λ start s now.
      take k new.actors.items ≡ map (is_ready (plan_of s) s.size now) (upto k))

module _ {S R W : Type 0} {stage : Stage S} {writer : Sink W} where
  -- With other flags, and other bytes still to come, it stands for the same moment.
  pub restated : {net : Net S R W} {start : Option (List ℕ)} {s : Scene} {now : Now Row}
      (flags : Vec Bool Global) (rests : ℕ → List ℕ) → length flags.items ≡ length net.actors.items
      → (now.failure ≡ None → Stands stage net.web (moved (record s { rests = rests }) now.links))
      → NetAt stage writer start s net now
      → NetAt stage writer start (record s { rests = rests }) (record net { actors = flags }) now
  restated = grind (arith, nat_tests)

  -- The flags of its actors are nothing that a net stands for.
  pub relisted : {old new : Net S R W} {start : Option (List ℕ)} {s : Scene} {now : Now Row}
      → new ≡ record old { actors = new.actors } → length new.actors.items ≡ length old.actors.items
      → NetAt stage writer start s old now → NetAt stage writer start s new now
  relisted = grind (arith, nat_tests)

  abbrev pub running_relisted : {old new : Net S R W} → new ≡ record old { actors = new.actors }
      → length new.actors.items ≡ length old.actors.items
      → IsRunning stage writer old → IsRunning stage writer new
  running_relisted same len r = record { start = r.start; scene = r.scene; now = r.now; at = relisted same len r.at }

  pub marked_more : {k : ℕ} {old new : Net S R W} {b : Bool} {list : Vec Bool Global}
      → Marked stage writer k old new → k < length old.actors.items
      → AtEach stage writer new (λ start s now. k ≤ s.count → b ≡ is_ready (plan_of s) s.size now k)
      → list.items ≡ slice_set new.actors.items k b → Marked stage writer (k + 1) old (record new { actors = list })
  marked_more {k} {old} {new} {b} {list} m less tells is =
      record {
        same = ap (λ (n : Net S R W). record n { actors = list }) m.same;
        len = ap length is ∙ length-set new.actors.items k b ∙ m.len;
        so_far = λ start s now h.
            let f = is_ready (plan_of s) s.size now in
            ap (take (k + 1)) is ∙ rw add-one (take-suc-set new.actors.items k b (omega (arith, less, m.len))
            ∙ ap (λ l. l ++ b ∷ []) (m.so_far start s now h)
            ∙ ap (λ y. map f (upto k) ++ y ∷ []) (tells start s now (relisted m.same m.len h) (omega (arith, less, h.actors)))
            ∙ sym (map-append f (upto k) (k ∷ [])));
      }

  -- It stands for a moment, as where nothing more is to come.
  pub first_running : {net : Net S R W} → IsNet stage writer net → IsRunning stage writer net
  first_running {net} r = record {
    start = r.start;
    scene = r.scene (λ i. []);
    now = r.now (λ i. []);
    at = r.at (λ i. []) (no_rests net);
  }

module _ {S R W : Type 0} {stage : Stage S} {writer : Sink W}
    {start : Option (List ℕ)} {s : Scene} {net : Net S R W} {now : Now Row} (h : NetAt stage writer start s net now) where
  pub holds_at : HoldsNow (plan_of s) s.size text_of h.turns now
  holds_at = every_turn (plan_of s) s.size text_of h.plan.ok h.plan.some h.turns h.first now h.begin h.walk

  -- While the run goes on:
  pub now_unfailed : result (plan_of s) now ≡ None → now.failure ≡ None
  now_unfailed none = unfailed_now stage writer start s net now 0 h none

  pub unfailed_at : result (plan_of s) now ≡ None → net.failure ≡ None
  unfailed_at none = h.failure ∙ now_unfailed none

  -- the actor that is chosen is ready,
  pub picked : {actor : ℕ} (pick : ℕ) → result (plan_of s) now ≡ None
      → actor ≡ chosen (ready_list (plan_of s) s.size now) pick
      → (actor ≤ s.count) × (is_ready (plan_of s) s.size now actor ≡ true)
  picked pick none is = rw is (goes_on (plan_of s) s.size now h.turns text_of pick holds_at none)

  -- and some actor is.
  pub some_ready : {list : List Bool} → result (plan_of s) now ≡ None
      → list ≡ ready_list (plan_of s) s.size now → some_true list ≡ true
  some_ready {list} none e =
      let g = goes_on (plan_of s) s.size now h.turns text_of 0 holds_at none in
      let k = chosen (ready_list (plan_of s) s.size now) 0 in
      some_at list k (ap (λ l. get_or l k false) e
      ∙ entry (is_ready (plan_of s) s.size now) (s.count + 1) k (omega (arith, g.0)) ∙ g.1)

  pub some_actor : result (plan_of s) now ≡ None → SomeReady (plan_of s) s.size now.links
  some_actor none =
      let n = going_on (plan_of s) s.size now now.failure (now.links (last (plan_of s))).heard none in
      (holds_at.holds n.0).1.progress (ap is_some n.1)

  pub any_ready : result (plan_of s) now ≡ None → AnyReady s now
  any_ready = grind (arith, nat_tests, some_actor, and_from)

  -- What was written at the end.

  pub partly : WroteFront s start (writer.contents net.sink)
  partly =
      let f = holds_at.front (plan_of s) h.plan.ok holds_at.agrees in
      record { part = written (plan_of s) text_of now; front = f; appends = h.written }

  wholly : (e : End) → now.failure ≡ None → (now.links (last (plan_of s))).heard ≡ Some e
      → WroteAll s start (writer.contents net.sink) (writer.flushed net.sink) e
  wholly e none heard =
      let w = holds_at.whole e none heard in
      record {
        end = w.end;
        appends = subst (Appends start (writer.contents net.sink)) w.written h.written;
        is_flushed = h.is_flushed e none heard;
      }

  outcome : (f : Option RunResult) (o : Option End) → now.failure ≡ f → (now.links (last (plan_of s))).heard ≡ o
      → IfSome (ended_by f o) (Outcome s start (writer.contents net.sink) (writer.flushed net.sink))
  outcome (Some ends.Finished) o e h = absurd (holds_at.fails ends.Finished e)
  outcome (Some (ends.Fault f)) o e h = absurd (holds_at.fails (ends.Fault f) e)
  outcome (Some (ends.Read k)) o e h = partly
  outcome (Some ends.Write) o e h = partly
  outcome (Some ends.Memory) o e h = partly
  outcome None (Some Closed) e h = wholly Closed e h
  outcome None (Some (Broken f)) e h = wholly (Broken f) e h
  outcome None None e h = tt

-- An order has led a net to the end of its run.
pub runs_to : {S R W O : Type 0} {stage : Stage S} {writer : Sink W}
    {order : Order O} {o p : O} {start : Option (List ℕ)} {s : Scene} {now : Now Row} {before : ℕ} {net : Net S R W} {by : RunResult}
    → (d : Leads stage writer order o p start s now before net) → result (plan_of s) d.to ≡ Some by
    → RunsTo stage writer order o p start s now before net by
runs_to {S} {R} {W} {O} {stage} {writer} {order} {o} {p} {start} {s} {now} {before} {net} {by} d e =
    let h = d.at in
    record {
      leads = d;
      over = e;
      outcome = at_some _ _ by e (outcome h d.to.failure (d.to.links (last (plan_of s))).heard refl refl);
      valid = λ keeps. fine_is 4294967295 (plan_meaning (plan_of s)) (meaning_fine (plan_of s) h.plan.ok keeps);
      whose = grind (arith, nat_tests, ⊎_elim, every_end);
    }
