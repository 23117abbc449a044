-- Several scores side by side as a stage of a plan.
use Rattle.std.specs.Prelude.{◌≡◌, ℕ, true, List, map, Option, Some, None}
use Rattle.hum_score.specs.Row.{Row}
use Rattle.hum_assemble.specs.Change.{Input}
use Rattle.hum_assemble.specs.Merge.{ahead}
use Rattle.hum_assemble.specs.Meaning.{Moment, opening, output, own_fault, rest, wanted, ends, held_at, waiting_at}
use Rattle.hum_turns.specs.Flow.{Flow}
use Rattle.hum_turns.specs.Plan.{Want, Source, Nothing}
use Rattle.hum_nodes.specs.At.{Kind, At}
use Rattle.hum_nodes.specs.Single.{own_end}

-- a flow as an input of assemble
abbrev pub input_of : Flow Row → Input
input_of f = record { put = f.items; ended = f.end }

abbrev pub inputs_of : List (Flow Row) → List Input
inputs_of fs = map input_of fs

-- the source that is wanted once all that is settled was given
abbrev pub wanted_of : List Input → Option ℕ
wanted_of xs = wanted (ahead (rest (opening xs))) (ends xs)

abbrev pub want_from : Option ℕ → Want
want_from None = Nothing
want_from (Some place) = Source place

-- The stage of this number, over these sources.
abbrev pub merging : ℕ → List ℕ → Kind
merging number sources = record {
  stage = record {
    sources = sources;
    bytes = 0;
    output = λ read inputs. output (inputs_of inputs);
    wants = λ read inputs. want_from (wanted_of (inputs_of inputs));
    own = λ read inputs. own_end (own_fault number (inputs_of inputs));
  };
  holds = λ inputs given.
      held_at (record { stage = number; inputs = inputs_of inputs; given = given });
  waits = λ inputs given.
      waiting_at (record { stage = number; inputs = inputs_of inputs; given = given });
  one_each = true;
}

-- Where the assembler stands for what was put and given, the node stands for that of its inputs.
pub record IsMerging (stands : Moment → Type 0) (from : List ℕ) (t : At) : Type 0 where
  pub moment : Moment
  pub stand : stands moment
  pub kind : t.kind ≡ merging moment.stage from
  pub inputs : inputs_of t.inputs ≡ moment.inputs
  pub given : t.given ≡ moment.given
