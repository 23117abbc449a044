-- Stages that are known by what they give for what they were given, and plans of them.
use Rattle.std.specs.Prelude.{◌≡◌, ℕ, pred, ◌+◌, ◌<◌, ◌≤◌}
use Rattle.std.specs.Prelude.{Bool, true, if◌then◌else◌, nat_lt, List}
use Rattle.std.specs.Prelude.{[], ◌∷◌, length, Some, None, slice_get}
use Rattle.std.specs.List.{AllByRecursion}
use Rattle.std.specs.Option.{unwrap_or}
use Rattle.hum_stage.specs.declared.faults.End.{End}
use Rattle.hum_stage.specs.declared.faults.End.TheVariants.{Closed, Broken}
use Rattle.hum_turns.specs.Flow.{Flow, so_far, Begins, AllLater, AllOver, AllFine}

-- What a stage needs next, once it has given all that is settled.
pub data Want : Type 0 where
  Bytes : Want
  -- a record or the end of the source at this place
  Source : (place : ℕ) → Want
  Nothing : Want

-- A stage reads from other stages, or it reads bytes. `bytes` counts these, and the end of the
-- bytes as one more; it is 0 for a stage that reads no bytes. What a stage gives, wants and
-- refuses is a function of how many bytes it has read and what it has had of its sources.
pub record Stage (R : Type 0) : Type 0 where
  pub sources : List ℕ
  pub bytes : ℕ
  pub output : ℕ → List (Flow R) → List R
  pub wants : ℕ → List (Flow R) → Want
  pub own : ℕ → List (Flow R) → End

-- Of two ends the fault, of two faults the one of the lower-numbered stage.
abbrev pub lower : End → End → End
lower Closed b = b
lower (Broken f) Closed = Broken f
lower (Broken f) (Broken g) = if nat_lt g.stage f.stage then Broken g else Broken f

-- The lowest-numbered fault of the inputs.
abbrev pub inputs_end : {R : Type 0} → List (Flow R) → End
inputs_end [] = Closed
inputs_end (a ∷ xs) = lower (unwrap_or a.end Closed) (inputs_end xs)

abbrev pub or_own : End → End → End
or_own Closed own = own
or_own (Broken f) own = Broken f

-- The end of a stage: the lowest-numbered fault of its inputs, else its own, else Closed.
abbrev pub end_of : {R : Type 0} → Stage R → ℕ → List (Flow R) → End
end_of stage read inputs = or_own (inputs_end inputs) (stage.own read inputs)

-- What a stage makes of its whole inputs.
abbrev pub whole : {R : Type 0} → Stage R → List (Flow R) → Flow R
whole stage inputs = record {
  items = stage.output stage.bytes inputs;
  end = Some (end_of stage stage.bytes inputs);
}

-- The inputs of a stage: a flow for each source, each of which may lie on a link.
pub record AreInputs {R : Type 0} (fine : Flow R → Bool) (stage : Stage R) (inputs : List (Flow R))
    : Type 0 where
  pub count : length inputs ≡ length stage.sources
  pub each : AllFine fine inputs

-- Inputs that go on.
pub record Onward {R : Type 0} (fine : Flow R → Bool) (stage : Stage R) (a b : List (Flow R))
    : Type 0 where
  pub before : AreInputs fine stage a
  pub after : AreInputs fine stage b
  pub later : AllLater a b

-- Inputs that go on, and no fewer bytes read.
pub record GoesOn {R : Type 0} (fine : Flow R → Bool) (stage : Stage R)
    (r : ℕ) (a : List (Flow R)) (s : ℕ) (b : List (Flow R)) : Type 0 where
  pub more : r ≤ s
  pub within : s ≤ stage.bytes
  pub inputs : Onward fine stage a b

-- The input at this place isn't over.
pub record IsOpenAt {R : Type 0} (inputs : List (Flow R)) (place : ℕ) : Type 0 where
  pub input : Flow R
  pub is_there : slice_get inputs place ≡ Some input
  pub is_open : input.end ≡ None

-- All inputs are over, and the bytes that are left change nothing.
pub record IsAtRest {R : Type 0} (stage : Stage R) (r : ℕ) (inputs : List (Flow R)) : Type 0 where
  pub over : AllOver inputs
  pub output : stage.output r inputs ≡ stage.output stage.bytes inputs
  pub own : stage.own r inputs ≡ stage.own stage.bytes inputs

-- What is asked of each stage.
pub record IsLawful {R : Type 0} (fine : Flow R → Bool) (stage : Stage R) : Type 0 where
  -- a stage that reads bytes has no sources
  pub apart : 0 < stage.bytes → stage.sources ≡ []
  -- what was given stays when more comes
  pub grows : (r s : ℕ) (a b : List (Flow R)) → GoesOn fine stage r a s b
      → Begins (stage.output r a) (stage.output s b)
  -- bytes are wanted only where some are left, or their end
  pub reads : (r : ℕ) (a : List (Flow R)) → stage.wants r a ≡ Bytes → r < stage.bytes
  -- a source is wanted only where it isn't over
  pub asks : (r : ℕ) (a : List (Flow R)) (j : ℕ) → length a ≡ length stage.sources
      → stage.wants r a ≡ Source j → IsOpenAt a j
  -- nothing is wanted only where nothing is left to come
  pub rests : (r : ℕ) (a : List (Flow R)) → AreInputs fine stage a → stage.wants r a ≡ Nothing
      → IsAtRest stage r a

-- What is asked of each stage but the last: what it makes may lie on a link, so far and as a whole.
pub record KeepsFine {R : Type 0} (fine : Flow R → Bool) (stage : Stage R) : Type 0 where
  pub front : (r : ℕ) (a : List (Flow R)) (xs : List R) → r ≤ stage.bytes
      → AreInputs fine stage a → Begins xs (stage.output r a) → fine (so_far xs) ≡ true
  pub done : (a : List (Flow R)) → AreInputs fine stage a → AllOver a
      → fine (whole stage a) ≡ true

-- So many stages, counted from 0, the last of which gives the plan's list; `fine` says which
-- flows may lie on a link.
pub record Plan (R : Type 0) : Type 0 where
  pub count : ℕ
  pub stage : ℕ → Stage R
  pub fine : Flow R → Bool

abbrev pub last : {R : Type 0} → Plan R → ℕ
last plan = pred plan.count

-- Each stage reads from lower ones alone, and keeps to what is asked of it.
pub record IsPlan {R : Type 0} (plan : Plan R) : Type 0 where
  pub some : 0 < plan.count
  pub below : (k : ℕ) → k < plan.count → AllByRecursion (λ s. s < k) (plan.stage k).sources
  pub lawful : (k : ℕ) → k < plan.count → IsLawful plan.fine (plan.stage k)
  pub keeps : (k : ℕ) → k + 1 < plan.count → KeepsFine plan.fine (plan.stage k)
