-- What several scores side by side stand for, as a node.
use Rattle.std.proofs.lemmas.Bool.Decides.{nat_tests}
use Rattle.std.proofs.Common.{◌≡◌, ◌∙◌, refl, sym, ap, subst, ℕ, zero, suc, Bool, true, if◌then◌else◌, nat_lt}
use Rattle.std.proofs.Common.{List, [], ◌∷◌, ◌++◌, length, map, replicate, Option, Some, None, unwrap_or, arith, ◌+◌, ◌<◌}
use Rattle.std.specs.Prelude.{MatchOption, slice_get}
use Rattle.hum_score.specs.Row.{Row}
use Rattle.hum_stage.specs.declared.faults.End.{End}
use Rattle.hum_stage.specs.declared.faults.Fault.{Fault}
use Rattle.hum_stage.specs.declared.faults.State.{State}
use Rattle.hum_stage.specs.declared.faults.State.TheVariants as state
use Rattle.hum_stage.specs.declared.faults.Readiness.{Readiness}
use Rattle.hum_stage.specs.Meaning.{resting_state, readiness_by, end_of as stage_end}
use Rattle.hum_score.specs.InOrder.{IsScore}
use Rattle.hum_assemble.specs.Change.{Input, Change, More, Ends, had_at}
use Rattle.hum_assemble.specs.Meaning as merge
use Rattle.hum_assemble.specs.Meaning.{Moment, after_take, after, ends, state_of, wants_of, put_of}
use Rattle.hum_assemble.specs.Meaning.{waiting_at, MayPut, MayEnd, HasChanged, HasTaken}
use Rattle.hum_assemble.proofs.Standings.{OpenIn}
use Rattle.hum_turns.specs.Flow.{Flow, so_far, AllFine}
use Rattle.hum_turns.specs.Plan.{or_own, inputs_end}
use Rattle.hum_nodes.specs.Doing.{Doing, Gives, Wants, Done}
use Rattle.hum_nodes.specs.Fine.{fine, IsFine}
use Rattle.hum_nodes.specs.At.{At, doing_by, doing_of, output_of, waits_of, readiness_of}
use Rattle.hum_nodes.specs.At.{change_at, MayChange, with_record, with_end}
use Rattle.hum_nodes.specs.At as node
use Rattle.hum_nodes.specs.Single.{own_end}
use Rattle.hum_nodes.specs.Merging.{input_of, inputs_of, wanted_of, want_from, merging, IsMerging}
use Rattle.hum_nodes.proofs.Fining.{fine_is}
use Rattle.hum_nodes.proofs.Merges.{wanted_open, unwanted_ended}
use Rattle.hum_nodes.proofs.MergingLaws.{ends_are, all_over}
use Rattle.hum_nodes.proofs.Polling.{at_is}
use Rattle.hum_nodes.proofs.Singles.{few_before}

-- What it does, by the state and by what is wanted.

abbrev pub by_state : State → Doing
by_state state.Gives = Gives
by_state state.Wants = Gives
by_state (state.Done e) = Done e

abbrev pub doing_for : State → Option ℕ → Doing
doing_for s None = by_state s
doing_for s (Some place) = Wants place

ended : (o : Option Fault) (e : End) → or_own e (own_end o) ≡ stage_end e o
ended o e = grind arith

-- where it gives nothing
rests : (a : List (Flow Row)) (o : Option Fault) (w : Option ℕ) → wanted_of (inputs_of a) ≡ w
    → doing_by (want_from w) (or_own (inputs_end a) (own_end o))
    ≡ doing_for (resting_state o (merge.inputs_end (ends (inputs_of a)))) w
rests = grind (arith, nat_tests, ends_are, all_over, unwanted_ended, ended)

by_test : (b : Bool) (a : List (Flow Row)) (o : Option Fault)
    → (if b then Gives
    else doing_by (want_from (wanted_of (inputs_of a))) (or_own (inputs_end a) (own_end o)))
    ≡ doing_for
    (if b then state.Gives else resting_state o (merge.inputs_end (ends (inputs_of a))))
    (if b then None else wanted_of (inputs_of a))
by_test = grind (arith, nat_tests, rests)

-- What the assembler is ready for, in the same way.

open_end : (j : ℕ) (es : List (Option End)) → OpenIn j es → merge.inputs_end es ≡ None
open_end j [] h = absurd h
open_end zero (e ∷ es) h = grind (arith, h)
open_end (suc j) (e ∷ es) h = grind (arith, open_end j es h)

rests_ready : (a : List (Flow Row)) (o : Option Fault) (w : Option ℕ) → wanted_of (inputs_of a) ≡ w
    → readiness_by (resting_state o (merge.inputs_end (ends (inputs_of a))))
    ≡ readiness_of (doing_for (resting_state o (merge.inputs_end (ends (inputs_of a)))) w)
rests_ready a o (Some place) h =
    rw (open_end place (ends (inputs_of a)) (wanted_open (inputs_of a) place h)) refl
rests_ready a o None h = grind (arith, nat_tests, ends_are, all_over, unwanted_ended)

by_readiness : (b : Bool) (a : List (Flow Row)) (o : Option Fault)
    → readiness_by (if b then state.Gives else resting_state o (merge.inputs_end (ends (inputs_of a))))
    ≡ readiness_of (doing_for
    (if b then state.Gives else resting_state o (merge.inputs_end (ends (inputs_of a))))
    (if b then None else wanted_of (inputs_of a)))
by_readiness = grind (arith, nat_tests, rests_ready)

doing_wants : (s : State) (o : Option ℕ) (p : ℕ) → doing_for s o ≡ Wants p → o ≡ Some p
doing_wants s o p h = grind (arith, h)

doing_done : (s : State) (o : Option ℕ) (e : End) → doing_for s o ≡ Done e → s ≡ state.Done e
doing_done s o e h = grind (arith, h)

fine_there : (a : List (Flow Row)) (place : ℕ) (change : Flow Row → Flow Row)
    → OpenIn place (ends (inputs_of a)) → AllFine fine (change_at change place a)
    → (f : Flow Row) × (put_of place (inputs_of a) ≡ f.items) × (fine (change f) ≡ true)
fine_there (x ∷ a) (suc place) change o h = fine_there a place change o h.1
fine_there a place change h k = grind (arith, nat_tests)

-- The inputs after a change.

abbrev pub flow_change : Change → Flow Row → Flow Row
flow_change (More row) = with_record row
flow_change (Ends end) = with_end end

changed_inputs : (change : Change) (a : List (Flow Row)) (place : ℕ)
    → inputs_of (change_at (flow_change change) place a) ≡ had_at place change (inputs_of a)
changed_inputs change (x ∷ a) (suc place) = ap (λ xs. input_of x ∷ xs) (changed_inputs change a place)
changed_inputs change a place = grind (arith, nat_tests)

module _ {stands : Moment → Type 0} {from : List ℕ} {t : At} (h : IsMerging stands from t) where
  doing_is : doing_of t ≡ doing_for (state_of h.moment) (wants_of h.moment)
  doing_is = grind (arith, nat_tests, at_is, by_test, nat_lt)

  pub told : {s : State} {o : Option ℕ} → s ≡ state_of h.moment → o ≡ wants_of h.moment
      → doing_for s o ≡ doing_of t
  told = grind (arith, nat_tests, doing_is)

  -- what the assembler is ready for
  pub readiness_is : (is : Readiness) → ((m : Moment) → stands m → is ≡ readiness_by (state_of m))
      → is ≡ readiness_of (doing_of t)
  readiness_is = grind (arith, nat_tests, by_readiness, nat_lt, doing_is)

  pub waits_is : waits_of t ≡ waiting_at h.moment
  waits_is = grind (arith, nat_tests)

  -- the end that the state tells
  pub end_told : {s : State} {end : End} → ((m : Moment) → stands m → s ≡ state_of m) → doing_of t ≡ Done end
      → s ≡ state.Done end
  end_told {end = end} shows done =
      shows h.moment h.stand ∙ doing_done (state_of h.moment) (wants_of h.moment) end (sym doing_is ∙ done)

  wanted : {place : ℕ} → doing_of t ≡ Wants place → wants_of h.moment ≡ Some place
  wanted {place} wants = doing_wants (state_of h.moment) (wants_of h.moment) place (sym doing_is ∙ wants)

  -- the place that the assembler tells
  pub wanted_place : {place : ℕ} {o : Option ℕ} → ((m : Moment) → stands m → o ≡ wants_of m) → doing_of t ≡ Wants place
      → unwrap_or o 0 ≡ place
  wanted_place shows wants = ap (λ o. unwrap_or o 0) (shows h.moment h.stand ∙ wanted wants)

  awaited : {place : ℕ} → doing_of t ≡ Wants place → OpenIn place (ends (inputs_of t.inputs))
  awaited = grind (arith, nat_tests, wanted_open, wanted)

  -- The assembler may be given what the node may be given.
  input : (change : Flow Row → Flow Row) (place : ℕ) → MayChange t change place
      → (f : Flow Row) × (put_of place h.moment.inputs ≡ f.items) × IsFine 4294967295 (change f)
  input = grind (arith, nat_tests, fine_there, awaited, fine_is)

  pub may_put : {at place : ℕ} (row : Row) → at ≡ place → MayChange t (with_record row) place → MayPut stands at row
  may_put {at} {place} row same p =
      let f = input (with_record row) place p in
      rw same (record {
        at = h.moment;
        stand = h.stand;
        wants = wanted p.wants;
        score = subst (λ l. IsScore (l ++ row ∷ [])) (sym f.1) f.2.score;
        few = subst (λ l. length l < 4294967295) (sym f.1) (few_before f.0.items row 4294967295 f.2.few);
      })

  pub may_end : {at place : ℕ} (end : End) → at ≡ place → MayChange t (with_end end) place → MayEnd stands at end
  may_end {at} {place} end same p = grind (arith, nat_tests, input, wanted)

  -- What it is then.
  pub changed : {later : Moment → Type 0} {at place : ℕ} (change : Change) → at ≡ place → doing_of t ≡ Wants place
      → HasChanged stands later at change → IsMerging later from (node.after_change (flow_change change) place t)
  changed {later} {at} {place} change same wants stand = record {
    moment = after place change h.moment;
    stand = rw (← same) (stand h.moment h.stand (rw same (wanted wants)));
    kind = h.kind;
    inputs = changed_inputs change t.inputs place ∙ ap (had_at place change) h.inputs;
    given = h.given;
  }

  pub taken : (later : Moment → Type 0) (o : Option Row) → HasTaken stands later o
      → (After : At → Type 0) → ((u : At) → IsMerging later from u → After u)
      → (o ≡ slice_get (output_of t) t.given) × MatchOption o (After t) (λ _. After (node.after_take t))
  taken = grind (arith, nat_tests)

-- Nothing was put yet.

abbrev empty_input : Input
empty_input = record { put = []; ended = None }

none_put : (from : List ℕ) → inputs_of (map (λ s. so_far []) from) ≡ replicate (length from) empty_input
none_put [] = refl
none_put (s ∷ from) = ap (λ xs. empty_input ∷ xs) (none_put from)

pub fresh_stands : {stands : Moment → Type 0} (stage n : ℕ) (from : List ℕ) → n ≡ length from
    → stands (merge.empty_moment stage n)
    → IsMerging stands from (node.fresh (merging stage from))
fresh_stands = grind (arith, nat_tests, none_put)
