-- What assemble means in a plan.
use Rattle.std.proofs.Common.{◌≡◌, ◌∙◌, refl, ◌+◌, List, map, Option, Some}
use Rattle.hum_score.specs.Row.{Row}
use Rattle.hum_stage.specs.declared.faults.Fault.{Fault}
use Rattle.hum_assemble.specs.Meaning.{output, own_fault}
use Rattle.hum_assemble.specs.Groups.{by_groups, fault_by_groups}
use Rattle.hum_assemble.proofs.Fronts.{gives_by_groups}
use Rattle.hum_turns.specs.Flow.{Flow}
use Rattle.hum_turns.specs.Plan.{inputs_end, or_own}
use Rattle.hum_turns.specs.Meaning.{meaning}
use Rattle.hum_nodes.specs.Single.{own_end}
use Rattle.hum_nodes.specs.Merging.{inputs_of}
use Rattle.hum_nodes.specs.Trees.{Beside, plan_of}
use Rattle.hum_pipes.specs.Merges.{merged, MergesByGroups}
use Rattle.hum_pipes.proofs.Moving.{are_scores}
use Rattle.hum_pipes.proofs.Joining.{made, fine_by}

pub merges : MergesByGroups
merges parts k from h =
    let flows = map (meaning (plan_of parts)) from in
    let groups = gives_by_groups (k + 1) (inputs_of flows) (are_scores flows (fine_by parts h.plan k h.within (Beside from) h.part)) in
    made parts h.plan k h.within (Beside from) h.part ∙ by flows (output (inputs_of flows)) (own_fault (k + 1) (inputs_of flows)) groups.rows groups.fault
  where
    by : (flows : List (Flow Row)) (rows : List Row) (own : Option Fault) → rows ≡ by_groups (inputs_of flows)
        → own ≡ fault_by_groups (k + 1) (inputs_of flows)
        → ◌≡◌ {A = Flow Row} (record { items = rows; end = Some (or_own (inputs_end flows) (own_end own)) }) (merged (k + 1) flows)
    by flows rows own p q = rw (p, q) refl
