-- What holds of every text.
use Rattle.std.specs.Prelude.{◌≡◌, ℕ, ◌↔◌, List, Ok, Err}
use Rattle.hum_plan.specs.Stages.{Stage, IsTree}
use Rattle.hum_plan.specs.declared.faults.PlanRule.TheVariants.{N12}
use Rattle.hum_plan.specs.Answers.{Outcome, PlanAnswer}
use Rattle.hum_plan.specs.Grammar.{IsPlanOf}

-- a text is read as the plan that it is, and as no other
abbrev pub IsReadAsWritten : List ℕ → Type 0
IsReadAsWritten bytes =
    (stages : List Stage) → PlanAnswer bytes (Ok stages) ↔ IsPlanOf bytes stages

-- the stages of a plan are a tree
abbrev pub HasATree : List ℕ → Type 0
HasATree bytes = (stages : List Stage) → IsPlanOf bytes stages → IsTree stages

-- what else an answer may be, where a text is the plan of these stages: the same, or N12
abbrev pub Agrees : {A : Type 0} → A → Outcome A → Type 0
Agrees given (Ok other) = given ≡ other
Agrees given (Err fault) = fault.rule ≡ N12

-- a text that is a plan is refused by nothing but a pattern that is too large, and is one plan only
abbrev pub IsOnePlan : List ℕ → Type 0
IsOnePlan bytes = (stages : List Stage) (answer : Outcome (List Stage)) → IsPlanOf bytes stages
    → PlanAnswer bytes answer → Agrees stages answer
