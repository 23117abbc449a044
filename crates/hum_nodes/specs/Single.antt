-- A stage of one input as a stage of a plan.
use Rattle.std.specs.Prelude.{◌≡◌, ℕ, Bool, false, List, [], ◌∷◌, Option, Some, None, is_some, slice_get}
use Rattle.hum_score.specs.Row.{Row}
use Rattle.hum_stage.specs.declared.faults.End.{End}
use Rattle.hum_stage.specs.declared.faults.End.TheVariants.{Closed, Broken}
use Rattle.hum_stage.specs.declared.faults.Fault.{Fault}
use Rattle.hum_stage.specs.Outcome.{held_of}
use Rattle.hum_stage.specs.Meaning.{Meaning, Moment, output, own_fault, waiting_rows, ShowsReadiness}
use Rattle.hum_turns.specs.Flow.{Flow}
use Rattle.hum_turns.specs.Plan.{Want, Source, Nothing}
use Rattle.hum_stage.specs.declared.faults.Readiness.{Readiness}
use Rattle.hum_nodes.specs.At.{Kind, At, output_of, holds_of, after_take}

-- the records of the first input
abbrev pub items_of : List (Flow Row) → List Row
items_of [] = []
items_of (f ∷ fs) = f.items

abbrev pub has_ended : List (Flow Row) → Bool
has_ended [] = false
has_ended (f ∷ fs) = is_some f.end

abbrev pub want_by : Option End → Want
want_by None = Source 0
want_by (Some end) = Nothing

-- it wants from its one input until that is over
abbrev pub want_of : List (Flow Row) → Want
want_of [] = Nothing
want_of (f ∷ fs) = want_by f.end

abbrev pub own_end : Option Fault → End
own_end None = Closed
own_end (Some fault) = Broken fault

-- It gives what its command has settled, and refuses what that refuses.
abbrev pub single : ℕ → Meaning → Kind
single from m = record {
  stage = record {
    sources = from ∷ [];
    bytes = 0;
    output = λ read inputs. output m (items_of inputs);
    wants = λ read inputs. want_of inputs;
    own = λ read inputs. own_end (own_fault m (items_of inputs));
  };
  holds = λ inputs given. held_of given (has_ended inputs) (m.outcomes (items_of inputs));
  waits = λ inputs given.
      waiting_rows (record { meaning = m; put = items_of inputs; given = given; ended = None });
  one_each = false;
}

-- Where the stage stands for what was put and given, the node stands for that of its one input.
pub record IsSingle (stands : Moment → Type 0) (from : ℕ) (t : At) : Type 0 where
  pub moment : Moment
  pub stand : stands moment
  pub kind : t.kind ≡ single from moment.meaning
  pub inputs : t.inputs ≡ record { items = moment.put; end = moment.ended } ∷ []
  pub given : t.given ≡ moment.given

-- The record that follows those given was taken of the stage ahead, the last one that was held, and it is
-- known what the stage is ready for behind it.
pub record HasAhead (stands : Moment → Type 0) (from : ℕ) (row : Row) (is : Readiness) (t : At) : Type 0 where
  pub next : Some row ≡ slice_get (output_of t) t.given
  pub held : holds_of t ≡ 1
  pub behind : IsSingle stands from (after_take t)
  pub asked : ShowsReadiness stands is

-- the same where nothing may have been taken ahead
abbrev pub IsAhead : (Moment → Type 0) → ℕ → Option Row → Readiness → At → Type 0
IsAhead stands from None is t = IsSingle stands from t
IsAhead stands from (Some row) is t = HasAhead stands from row is t
