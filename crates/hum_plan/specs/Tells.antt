-- What was answered is a lawful answer, unless memory ran out.
use Rattle.std.specs.Prelude.{Result, Ok, Err}
use Rattle.hum_plan.specs.declared.faults.PlanError.{PlanError}
use Rattle.hum_plan.specs.declared.faults.PlanError.TheVariants.{Fault, Memory}
use Rattle.hum_plan.specs.declared.faults.PlanFault.{PlanFault}
use Rattle.hum_plan.specs.declared.draft.Draft.{Draft}
use Rattle.hum_plan.specs.Answers.{Outline, Outcome}
use Rattle.hum_plan.specs.Seen.{stages_of}

-- the draft of a plan, wherever its lists lie
abbrev pub outline_of : Draft → Outline
outline_of draft = record { stages = stages_of draft.stages.items; branches = draft.branches }

-- a fault is lawful; running out of memory always may be
abbrev pub Fails : (PlanFault → Type 0) → PlanError → Type 0
Fails Lawful (Fault fault) = Lawful fault
Fails Lawful Memory = Unit {0}

-- what was answered, as `seen` shows it, is lawful
abbrev pub Tells : {X A : Type 0} → (X → A) → (Outcome A → Type 0) → Result X PlanError → Type 0
Tells seen Lawful (Ok given) = Lawful (Ok (seen given))
Tells seen Lawful (Err error) = Fails (λ fault. Lawful (Err fault)) error
