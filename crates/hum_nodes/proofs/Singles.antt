-- What a stage of one input stands for, as a node.
use Rattle.std.proofs.lemmas.Bool.Decides.{nat_tests}
use Rattle.std.proofs.Common.{◌≡◌, ap, ℕ, ◌+◌, ◌<◌, ◌≤◌, Bool, if◌then◌else◌, nat_lt, List, []}
use Rattle.std.proofs.Common.{◌∷◌, ◌++◌, length, Option, Some, None, arith, length-append, slice_get}
use Rattle.std.proofs.Common.{drop, suc}
use Rattle.hum_score.specs.Row.{Row}
use Rattle.hum_stage.specs.declared.faults.End.{End}
use Rattle.hum_stage.specs.declared.faults.Fault.{Fault}
use Rattle.hum_stage.specs.declared.faults.State.{State}
use Rattle.hum_stage.specs.declared.faults.State.TheVariants as state
use Rattle.hum_stage.specs.declared.faults.Readiness.{Readiness}
use Rattle.hum_stage.specs.Meaning.{Moment, state_of, resting_state}
use Rattle.hum_stage.specs.Meaning.{ShowsState, ShowsReadiness, MayPut, MayEnd, TookFirst, waiting_rows}
use Rattle.hum_record.specs.Room.{room_for, rooms_for}
use Rattle.hum_turns.specs.Flow.{Flow}
use Rattle.hum_nodes.specs.Doing.{Doing, Gives, Wants, Done}
use Rattle.hum_nodes.specs.Fine.{fine, IsFine}
use Rattle.hum_nodes.specs.At.{At, doing_of, waits_of, change_at, MayChange}
use Rattle.hum_nodes.specs.At.{with_record, with_end}
use Rattle.hum_nodes.specs.Nodes.{KnowsSource}
use Rattle.hum_nodes.specs.Single.{IsSingle, HasAhead, IsAhead}
use Rattle.hum_nodes.proofs.Fining.{fine_is}
use Rattle.hum_nodes.proofs.Polling.{at_is}

abbrev pub doing_for : State → Doing
doing_for state.Gives = Gives
doing_for state.Wants = Wants 0
doing_for (state.Done e) = Done e

state_wants : (s : State) (p : ℕ) → doing_for s ≡ Wants p → (s ≡ state.Wants) × (p ≡ 0)
state_wants s p h = grind (arith, h)

not_ended : (b : Bool) (o : Option Fault) (e : Option End)
    → (if b then state.Gives else resting_state o e) ≡ state.Wants → e ≡ None
not_ended b o e h = grind (arith, h)

-- What a stage of one input may be given.
pub record Changes (m : Moment) (change : Flow Row → Flow Row) (place : ℕ) (old : List (Flow Row)) : Type 0 where
  pub wants : state_of m ≡ state.Wants
  pub ended : m.ended ≡ None
  pub inputs :
      change_at change place old ≡ change (record { items = m.put; end = m.ended }) ∷ []
  pub fine : IsFine 4294967295 (change (record { items = m.put; end = m.ended }))

pub few_before : (p : List Row) (x : Row) (most : ℕ) → length (p ++ x ∷ []) ≤ most → length p < most
few_before p x most h = omega (arith, length-append p (x ∷ []))

module _ {stands : Moment → Type 0} {from : ℕ} {t : At} (h : IsSingle stands from t) where
  -- What it does is told by the stage's state,
  pub doing_is : doing_of t ≡ doing_for (state_of h.moment)
  doing_is = grind (arith, nat_tests)

  -- and so is its end.
  pub end_told : {s : State} {end : End} → ShowsState stands s → doing_of t ≡ Done end → s ≡ state.Done end
  end_told = grind (arith, nat_tests)

  pub waits_is : waits_of t ≡ waiting_rows h.moment
  waits_is = ap waits_of (at_is t h.kind h.inputs h.given)

  -- The stage may be given what the node may be given.
  pub changes : (change : Flow Row → Flow Row) (place : ℕ) → MayChange t change place
      → Changes h.moment change place t.inputs
  changes = grind (arith, nat_tests, state_wants, doing_is, not_ended, nat_lt, fine_is)

  pub may_put : (row : Row) (place : ℕ) → MayChange t (with_record row) place → MayPut stands row
  may_put row place p =
      let k = changes (with_record row) place p in
      record {
        at = h.moment;
        stand = h.stand;
        wants = k.wants;
        score = k.fine.score;
        few = few_before h.moment.put row 4294967295 k.fine.few;
      }

  pub may_end : (end : End) (place : ℕ) → MayChange t (with_end end) place → MayEnd stands end
  may_end = grind (arith, nat_tests, changes)

-- Where a record was taken ahead it gives; else it is the stage of one input.

-- so that it takes from no source.
pub takes_none : (from : ℕ) (t : At) → doing_of t ≡ Gives → KnowsSource from t
takes_none from t gives place wants = cc

-- It waits.

first_room : (xs more : List Row) (i : ℕ) (row : Row) → Some row ≡ slice_get xs i
    → room_for row ≤ rooms_for (drop i xs ++ more)
first_room (x ∷ xs) more (suc i) row h = first_room xs more i row h
first_room xs more i row h = grind (arith, nat_tests)

pub room_ahead : {stands : Moment → Type 0} {from : ℕ} {row : Row} {is : Readiness} {t : At}
    → HasAhead stands from row is t → room_for row ≤ rooms_for (waits_of t)
room_ahead = grind (arith, nat_tests, at_is, first_room, slice_get)

-- The first that was settled may be kept ahead.
pub took_ahead : {stands : Moment → Type 0} {from : ℕ} {t : At} {row : Row} {is : Readiness}
    → IsSingle (λ m. TookFirst stands m row) from t → ShowsReadiness stands is → IsAhead stands from (Some row) is t
took_ahead = grind (arith, nat_tests)
