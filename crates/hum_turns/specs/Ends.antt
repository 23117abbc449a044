-- How runs end, and that every order brings them to their end.
use Rattle.std.specs.Prelude.{◌≡◌, ◌⊎◌, ℕ, ◌<◌, true, List, Some, None}
use Rattle.hum_turns.specs.declared.result.RunResult.{RunResult}
use Rattle.hum_turns.specs.Plan.{Plan, IsPlan}
use Rattle.hum_turns.specs.Meaning.{plan_meaning, first_fault, IsNumbered}
use Rattle.hum_turns.specs.Links.{is_over}
use Rattle.hum_turns.specs.Text.{text}
use Rattle.hum_turns.specs.Failures.{Now, result_of, IsFailure, result, written, Walk, IsFirst}
use Rattle.hum_turns.specs.Orders.{Order, Driven}

-- The run ended as the plan means: by the fault of the lowest-numbered stage that refuses, or
-- finished where none does. What was written is the text of the plan's list, and nothing else.
pub record EndsAsMeant {R : Type 0} (plan : Plan R) (bytes : R → List ℕ) (now : Now R)
    (by : RunResult) : Type 0 where
  pub result : by ≡ result_of (first_fault plan plan.count)
  pub written : written plan bytes now ≡ text bytes (plan_meaning plan).items

-- Whoever had their turns, a run that has ended did so by a failure or as the plan means.
abbrev pub EveryEnd : Type 0 → Type 0
EveryEnd R = (plan : Plan R) (size : ℕ) (bytes : R → List ℕ) → IsPlan plan → IsNumbered plan
    → 0 < size → (turns : List ℕ) (first now : Now R) → IsFirst first
    → Walk plan size bytes first turns now → (by : RunResult) → result plan now ≡ Some by
    → IsFailure by ⊎ EndsAsMeant plan bytes now by

-- The turns that an order drives where nothing fails, to the end of the run.
pub record LeadsToEnd {R O : Type 0} (order : Order O) (plan : Plan R) (size : ℕ)
    (bytes : R → List ℕ) (o : O) (first : Now R) : Type 0 where
  pub turns : List ℕ
  pub now : Now R
  pub after : O
  pub driven : Driven order plan size bytes o first turns now after
  pub failure : now.failure ≡ None
  pub over : is_over plan now.links ≡ true

-- Every order, whatever it picks, has such turns.
abbrev pub EveryOrderEnds : Type 0 → Type 0 → Type 0
EveryOrderEnds R O = (order : Order O) (plan : Plan R) (size : ℕ) (bytes : R → List ℕ)
    → IsPlan plan → 0 < size → (first : Now R) (o : O) → IsFirst first
    → LeadsToEnd order plan size bytes o first
