-- What is written is a prefix of the plan's text, also where a failure ends the run.
use Rattle.std.proofs.lemmas.Grind.{common_steps}
use Rattle.std.proofs.lemmas.Bool.Decides.{nat_tests}
use Rattle.std.proofs.Common.{◌≡◌, ℕ, pred, ◌+◌, ◌<◌, ◌⊎◌, inl, inr, List, [], ◌∷◌, ◌++◌}
use Rattle.std.proofs.Common.{length, Option, Some, None, is_some, refl, sym, ap, ◌∙◌}
use Rattle.std.proofs.Common.{subst, ⊎_elim, arith}
use Rattle.std.proofs.lemmas.Option.{none-some, same_Some}
use Rattle.hum_stage.specs.declared.faults.End.{End}
use Rattle.hum_turns.specs.Flow.{Begins}
use Rattle.hum_turns.specs.Plan.{Plan, last, IsPlan}
use Rattle.hum_turns.specs.Meaning.{plan_meaning}
use Rattle.hum_turns.specs.Links.{given, view, Moment, Same, Agrees}
use Rattle.hum_turns.specs.Turns.{Run}
use Rattle.hum_turns.specs.declared.result.RunResult.{RunResult}
use Rattle.hum_turns.specs.declared.result.RunResult.TheVariants as ends
use Rattle.hum_turns.specs.Text.{line_of, text, next_text}
use Rattle.hum_turns.specs.Failures.{Now, IsFailure, written, MayFail, Turn, SameNow}
use Rattle.hum_turns.specs.Failures.{Walk, IsFirst, IsWhole, HoldsNow, EveryTurn}
use Rattle.hum_turns.proofs.Fronts.{begins_refl, begins_trans, begins_append, begins_after}
use Rattle.hum_turns.proofs.Fronts.{begins_nil}
use Rattle.hum_turns.proofs.States.{last_less}
use Rattle.hum_turns.proofs.Keeping.{Inv, same_keeps}
use Rattle.hum_turns.proofs.Against.{front, agrees_good, agrees_self}
use Rattle.hum_turns.proofs.Every.{reached, every_order}

-- Texts.

module _ {R : Type 0} (bytes : R → List ℕ) where
  pub text_append : (a b : List R) → text bytes (a ++ b) ≡ text bytes a ++ text bytes b
  text_append [] b = refl
  text_append (x ∷ a) b = grind (arith, common_steps, text_append a b)

  text_begins : (a b : List R) → Begins a b → Begins (text bytes a) (text bytes b)
  text_begins a b h = (text bytes h.0, sym (text_append a h.0) ∙ ap (text bytes) h.1)

  next_begins : (ws : List R) → Begins (next_text bytes ws) (text bytes ws)
  next_begins [] = begins_refl []
  next_begins (x ∷ ws) = begins_append (line_of bytes x) (text bytes ws)

-- Turns that fail.

module _ {R : Type 0} (plan : Plan R) (k : ℕ) (bytes : R → List ℕ) (m : Moment R) where
  -- what was written then is a prefix of what waits
  part_begins : (by : RunResult) (part : List ℕ) → MayFail plan k bytes m by part
      → Begins part (text bytes (m (last plan)).waiting)
  part_begins ends.Finished part h = absurd h
  part_begins (ends.Fault f) part h = absurd h
  part_begins (ends.Read i) part h = begins_nil part _ h.2
  part_begins ends.Write part h =
      begins_trans part _ _ h.1 (next_begins bytes (m (last plan)).waiting)
  part_begins ends.Memory part h = begins_nil part _ h

  is_failure : (by : RunResult) (part : List ℕ) → MayFail plan k bytes m by part → IsFailure by
  is_failure = grind (arith, nat_tests)

-- Turns are a run, or a run and one turn that fails.

record Going {R : Type 0} (plan : Plan R) (size : ℕ) (old : Moment R) (ks : List ℕ) (new : Now R)
    : Type 0 where
  run : Run plan size old ks new.links
  part : new.part ≡ []
  failure : new.failure ≡ None

record Stopped {R : Type 0} (plan : Plan R) (size : ℕ) (bytes : R → List ℕ) (old : Moment R)
    (ks : List ℕ) (new : Now R) : Type 0 where
  before : Moment R
  turns : List ℕ
  one_more : length ks ≡ length turns + 1
  run : Run plan size old turns before
  same : Same before new.links
  actor : ℕ
  by : RunResult
  failure : new.failure ≡ Some by
  may : MayFail plan actor bytes before by new.part

abbrev now_of : {R : Type 0} → Moment R → List ℕ → Option RunResult → Now R
now_of m part failure = record { links = m; part = part; failure = failure }

pub same_now : {R : Type 0} (old new : Now R) → SameNow old new → new ≡ old
same_now = grind (arith, nat_tests)

pub still : {R : Type 0} (now : Now R) → SameNow now now
still now = record { links = λ k. refl; part = refl; failure = refl }

module _ {R : Type 0} (plan : Plan R) (size : ℕ) (bytes : R → List ℕ) where
  -- after a failure no actor is ready
  walk_failed : (ks : List ℕ) (old new : Now R) (by : RunResult) → old.failure ≡ Some by
      → Walk plan size bytes old ks new → (ks ≡ []) × SameNow old new
  walk_failed [] old new by f w = (refl, w)
  walk_failed (k ∷ ks) old new by f w = grind (arith, nat_tests)

  walk_ends : (ks : List ℕ) (old new : Now R) → old.part ≡ [] → old.failure ≡ None
      → Walk plan size bytes old ks new
      → Going plan size old.links ks new ⊎ Stopped plan size bytes old.links ks new
  walk_ends [] old new p f w = grind (arith, nat_tests)
  walk_ends (k ∷ ks) old new p f w =
      let between = w.0 in
      ⊎_elim
      (λ moves. ⊎_elim
      (λ g. inl (record {
        run = (between.links, moves.step, g.run);
        part = g.part;
        failure = g.failure;
      }))
      (λ s. inr (record {
        before = s.before;
        turns = k ∷ s.turns;
        one_more = let n = s.one_more in omega arith;
        run = (between.links, moves.step, s.run);
        same = s.same;
        actor = s.actor;
        by = s.by;
        failure = s.failure;
        may = s.may;
      }))
      (walk_ends ks between new moves.part moves.failure w.2))
      (λ fails.
      let f = walk_failed ks between new fails.by fails.failure w.2 in
      let s = f.1 in
      let none : length ks ≡ 0 = ap length f.0 in
      inr (record {
        before = old.links;
        turns = [];
        one_more = omega arith;
        run = λ i. refl;
        same = λ i. s.links i ∙ fails.links i;
        actor = k;
        by = fails.by;
        failure = s.failure ∙ fails.failure;
        may = subst (MayFail plan k bytes old.links fails.by) (sym s.part) fails.may;
      }))
      w.1.turns

  -- without a failure turns are a run
  pub walk_going : (ks : List ℕ) (first now : Now R) → IsFirst first → now.failure ≡ None
      → Walk plan size bytes first ks now
      → Run plan size first.links ks now.links × (now.part ≡ [])
  walk_going = grind (arith, nat_tests, ⊎_elim, none-some, walk_ends)

  -- one turn more
  pub walk_more : (ks : List ℕ) (k : ℕ) (old between new : Now R)
      → Walk plan size bytes old ks between → Turn plan size bytes k between new
      → Walk plan size bytes old (ks ++ k ∷ []) new
  walk_more [] k old between new w t = grind (arith, nat_tests, same_now old between w, still new)
  walk_more (j ∷ ks) k old between new w t = grind (arith, nat_tests, walk_more ks k w.0 between new w.2 t)

  -- What was taken and a prefix of what waits is a prefix of the text, however the inputs go on.
  front_of : (other : Plan R) (now : Now R) → IsPlan other → Inv plan size now.links
      → Agrees plan other now.links
      → Begins now.part (text bytes (now.links (last plan)).waiting)
      → Begins (written plan bytes now) (text bytes (plan_meaning other).items)
  front_of other now oko inv agree part =
      let m = now.links in
      let l = m (last plan) in
      let e : last other ≡ last plan = ap (λ n. pred n) agree.count in
      let f = front other oko size m (last other) (agrees_good plan other size m agree inv)
      (last_less other.count oko.some) in
      let g : Begins (given l) (plan_meaning other).items =
      subst (λ s. Begins (given (m s)) (plan_meaning other).items) e f.0 in
      begins_trans _ _ _ (begins_after (text bytes l.taken) now.part (text bytes l.waiting) part)
      (subst (λ t. Begins t (text bytes (plan_meaning other).items))
      (text_append bytes l.taken l.waiting) (text_begins bytes _ _ g))

  is_whole : (now : Now R) (e : End) → now.part ≡ [] → (now.links (last plan)).heard ≡ Some e
      → view (now.links (last plan)) ≡ plan_meaning plan → IsWhole plan bytes now e
  is_whole = grind (arith, common_steps)

  module _ (ok : IsPlan plan) (some : 0 < size) (turns : List ℕ) (first now : Now R)
      (start : IsFirst first) where
    holds_going : Going plan size first.links turns now → HoldsNow plan size bytes turns now
    holds_going g =
        let inv = reached plan size turns first.links now.links ok start.links g.run in
        let h = every_order plan size ok some turns first.links now.links start.links g.run in
        let most = h.bounded in
        record {
          bounded = omega arith;
          front = λ other oko agree. front_of other now oko inv agree (begins_nil now.part _ g.part);
          agrees = agrees_self plan size now.links inv;
          holds = λ f. (g.part, h);
          fails = λ by e. absurd (none-some by (sym g.failure ∙ e));
          whole = λ e f heard. is_whole now e g.part heard (h.whole (ap is_some heard));
        }

    holds_stopped : Stopped plan size bytes first.links turns now → HoldsNow plan size bytes turns now
    holds_stopped s =
        let inv = same_keeps plan size ok s.before now.links s.same
        (reached plan size s.turns first.links s.before ok start.links s.run) in
        let part = part_begins plan s.actor bytes s.before s.by now.part s.may in
        let h = every_order plan size ok some s.turns first.links s.before start.links s.run in
        let n = s.one_more in
        let most = h.bounded in
        record {
          bounded = omega arith;
          front = λ other oko agree. front_of other now oko inv agree
              (subst (λ l. Begins now.part (text bytes l.waiting)) (sym (s.same (last plan))) part);
          agrees = agrees_self plan size now.links inv;
          holds = λ f. absurd (none-some s.by (sym f ∙ s.failure));
          fails = grind (arith, nat_tests, same_Some, is_failure);
          whole = λ e f heard. absurd (none-some s.by (sym f ∙ s.failure));
        }

pub every_turn : {R : Type 0} → EveryTurn R
every_turn plan size bytes ok some turns first now start walk =
    ⊎_elim
    (holds_going plan size bytes ok some turns first now start)
    (holds_stopped plan size bytes ok some turns first now start)
    (walk_ends plan size bytes turns first now start.part start.failure walk)
