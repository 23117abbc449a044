-- Runs that a failed read, a failed write or running out of memory may end.
use Rattle.std.specs.Prelude.{◌≡◌, ◌⊎◌, ℕ, ◌+◌, ◌<◌, ◌≤◌, Bool, true, ◌&&◌}
use Rattle.std.specs.Prelude.{List, [], ◌∷◌, ◌++◌}
use Rattle.std.specs.Prelude.{length, Option, Some, None, is_none}
use Rattle.hum_stage.specs.declared.faults.End.{End}
use Rattle.hum_stage.specs.declared.faults.End.TheVariants.{Closed, Broken}
use Rattle.hum_turns.specs.declared.result.RunResult.{RunResult}
use Rattle.hum_turns.specs.declared.result.RunResult.TheVariants as ends
use Rattle.hum_turns.specs.Flow.{Begins}
use Rattle.hum_turns.specs.Plan.{Plan, IsPlan, last}
use Rattle.hum_turns.specs.Meaning.{plan_meaning}
use Rattle.hum_turns.specs.Links.{Moment, Same, IsOpening, Agrees}
use Rattle.hum_turns.specs.Turns.{is_source, ready, Step}
use Rattle.hum_turns.specs.Counts.{bound}
use Rattle.hum_turns.specs.Holds.{Holds}
use Rattle.hum_turns.specs.Text.{text, next_text}

-- A run at a moment: its links, what was written of the next record though its write failed, and
-- the failure that ended the run.
pub record Now (R : Type 0) : Type 0 where
  pub links : Moment R
  pub part : List ℕ
  pub failure : Option RunResult

-- How a run ends.

-- at the sink's mark
abbrev pub result_of : End → RunResult
result_of Closed = ends.Finished
result_of (Broken f) = ends.Fault f

-- a failed read or write, or running out of memory
abbrev pub IsFailure : RunResult → Type 0
IsFailure ends.Finished = ⊥
IsFailure (ends.Fault f) = ⊥
IsFailure (ends.Read k) = Unit {0}
IsFailure ends.Write = Unit {0}
IsFailure ends.Memory = Unit {0}

abbrev pub ended_by : Option RunResult → Option End → Option RunResult
ended_by (Some failure) heard = Some failure
ended_by None (Some e) = Some (result_of e)
ended_by None None = None

-- How the run ended, once it has: by a failure, or at the sink's mark.
abbrev pub result : {R : Type 0} → Plan R → Now R → Option RunResult
result plan now = ended_by now.failure (now.links (last plan)).heard

-- All that was written.
abbrev pub written : {R : Type 0} → Plan R → (R → List ℕ) → Now R → List ℕ
written plan bytes now = text bytes (now.links (last plan)).taken ++ now.part

-- Turns.

-- a run that has ended has no ready actor
abbrev pub is_ready : {R : Type 0} → Plan R → ℕ → Now R → ℕ → Bool
is_ready plan size now k = is_none (result plan now) && ready plan size now.links k

-- By what a turn of actor k may fail, and what it has written then: a source by its reader, the
-- sink by its writer, each actor by running out of memory.
abbrev pub MayFail : {R : Type 0} → Plan R → ℕ → (R → List ℕ) → Moment R → RunResult → List ℕ
    → Type 0
MayFail plan k bytes m ends.Finished part = ⊥
MayFail plan k bytes m (ends.Fault f) part = ⊥
MayFail plan k bytes m (ends.Read i) part =
    (is_source plan k ≡ true) × (i ≡ k + 1) × (part ≡ [])
MayFail plan k bytes m ends.Write part =
    (k ≡ plan.count) × Begins part (next_text bytes (m (last plan)).waiting)
MayFail plan k bytes m ends.Memory part = part ≡ []

-- a turn that moves
pub record Moves {R : Type 0} (plan : Plan R) (size k : ℕ) (old new : Now R) : Type 0 where
  pub step : Step plan size k old.links new.links
  pub part : new.part ≡ []
  pub failure : new.failure ≡ None

-- a turn that ends the run by a failure, and moves nothing
pub record Fails {R : Type 0} (plan : Plan R) (bytes : R → List ℕ) (k : ℕ) (old new : Now R)
    : Type 0 where
  pub within : k ≤ plan.count
  pub links : Same old.links new.links
  pub by : RunResult
  pub failure : new.failure ≡ Some by
  pub may : MayFail plan k bytes old.links by new.part

-- One turn of an actor that is ready.
pub record Turn {R : Type 0} (plan : Plan R) (size : ℕ) (bytes : R → List ℕ) (k : ℕ)
    (old new : Now R) : Type 0 where
  pub is_ready : is_ready plan size old k ≡ true
  pub turns : Moves plan size k old new ⊎ Fails plan bytes k old new

pub record SameNow {R : Type 0} (old new : Now R) : Type 0 where
  pub links : Same old.links new.links
  pub part : new.part ≡ old.part
  pub failure : new.failure ≡ old.failure

-- The turns of these actors, one after another.
abbrev pub Walk : {R : Type 0} → Plan R → ℕ → (R → List ℕ) → Now R → List ℕ → Now R → Type 0
Walk plan size bytes old [] new = SameNow old new
Walk {R} plan size bytes old (k ∷ ks) new =
    (between : Now R) × Turn plan size bytes k old between × Walk plan size bytes between ks new

pub record IsFirst {R : Type 0} (now : Now R) : Type 0 where
  pub links : IsOpening now.links
  pub part : now.part ≡ []
  pub failure : now.failure ≡ None

-- The sink has heard this end: it is the plan's, and the plan's whole text was written.
pub record IsWhole {R : Type 0} (plan : Plan R) (bytes : R → List ℕ) (now : Now R) (e : End)
    : Type 0 where
  pub written : written plan bytes now ≡ text bytes (plan_meaning plan).items
  pub end : (plan_meaning plan).end ≡ Some e

-- What holds at each moment that turns lead to, also once a failure has ended the run.
pub record HoldsNow {R : Type 0} (plan : Plan R) (size : ℕ) (bytes : R → List ℕ)
    (turns : List ℕ) (now : Now R) : Type 0 where
  -- what is written is a prefix of the plan's text, however the inputs go on
  pub front : (other : Plan R) → IsPlan other → Agrees plan other now.links
      → Begins (written plan bytes now) (text bytes (plan_meaning other).items)
  pub agrees : Agrees plan plan now.links
  -- without a failure, all that holds of a run
  pub holds : now.failure ≡ None → (now.part ≡ []) × Holds plan size turns now.links
  -- with the turn that failed, where one did
  pub bounded : length turns ≤ bound plan + 1
  -- no failure is a stage's fault, or the end of a whole run
  pub fails : (by : RunResult) → now.failure ≡ Some by → IsFailure by
  pub whole : (e : End) → now.failure ≡ None → (now.links (last plan)).heard ≡ Some e
      → IsWhole plan bytes now e

-- Every list of turns, with every failure at any of them.
abbrev pub EveryTurn : Type 0 → Type 0
EveryTurn R = (plan : Plan R) (size : ℕ) (bytes : R → List ℕ) → IsPlan plan → 0 < size
    → (turns : List ℕ) (first now : Now R) → IsFirst first → Walk plan size bytes first turns now
    → HoldsNow plan size bytes turns now
