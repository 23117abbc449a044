-- What a plan means, with no word of turns: each stage over the whole meanings of its sources.
use Rattle.std.specs.Prelude.{◌≡◌, true, ℕ, zero, suc, ◌+◌, ◌<◌, if◌then◌else◌, nat_eq}
use Rattle.std.specs.Prelude.{[], map, Some}
use Rattle.std.specs.Prelude.{slice_get}
use Rattle.hum_stage.specs.declared.faults.End.{End}
use Rattle.hum_stage.specs.declared.faults.End.TheVariants.{Closed, Broken}
use Rattle.hum_stage.specs.declared.faults.Fault.{Fault}
use Rattle.hum_turns.specs.Flow.{Flow, so_far}
use Rattle.hum_turns.specs.Plan.{Plan, IsPlan, KeepsFine, last, or_own, whole}

-- The meanings of the stages below n.
abbrev pub meanings : {R : Type 0} → Plan R → ℕ → ℕ → Flow R
meanings plan zero k = so_far []
meanings plan (suc n) k =
    if nat_eq k n
    then whole (plan.stage n) (map (meanings plan n) (plan.stage n).sources)
    else meanings plan n k

-- What stage k means.
abbrev pub meaning : {R : Type 0} → Plan R → ℕ → Flow R
meaning plan k = meanings plan (suc k) k

-- the plan's list and its end
abbrev pub plan_meaning : {R : Type 0} → Plan R → Flow R
plan_meaning plan = meaning plan (last plan)

-- Where the last stage too makes what may lie on a link, so does the plan.
abbrev pub EveryMeaningIsFine : Type 0 → Type 0
EveryMeaningIsFine R = (plan : Plan R) → IsPlan plan
    → KeepsFine plan.fine (plan.stage (last plan)) → plan.fine (plan_meaning plan) ≡ true

-- Whose fault it is.

-- the fault that stage k refuses by, over its whole inputs
abbrev pub own_of : {R : Type 0} → Plan R → ℕ → End
own_of plan k =
    (plan.stage k).own (plan.stage k).bytes (map (meaning plan) (plan.stage k).sources)

-- The first fault met where the first n stages are evaluated one after another, each on its
-- whole inputs.
abbrev pub first_fault : {R : Type 0} → Plan R → ℕ → End
first_fault plan zero = Closed
first_fault plan (suc n) = or_own (first_fault plan n) (own_of plan n)

-- Stage k is read by a later one.
pub record IsRead {R : Type 0} (plan : Plan R) (k : ℕ) : Type 0 where
  pub reader : ℕ
  pub place : ℕ
  pub later : k < reader
  pub within : reader < plan.count
  pub is_there : slice_get (plan.stage reader).sources place ≡ Some k

-- A fault bears its stage's number, counted from 1, and each stage but the last is read.
pub record IsNumbered {R : Type 0} (plan : Plan R) : Type 0 where
  pub number : (k : ℕ) (f : Fault) → k < plan.count → own_of plan k ≡ Broken f
      → f.stage ≡ k + 1
  pub read : (k : ℕ) → k + 1 < plan.count → IsRead plan k

-- The plan's end is the fault of the lowest-numbered stage that refuses, whenever it did.
abbrev pub WhoseFault : Type 0 → Type 0
WhoseFault R = (plan : Plan R) → IsPlan plan → IsNumbered plan
    → (plan_meaning plan).end ≡ Some (first_fault plan plan.count)
