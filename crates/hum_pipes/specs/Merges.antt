-- What assemble means in a plan: the groups of what its sources mean.
use Rattle.std.specs.Prelude.{◌≡◌, ℕ, ◌+◌, ◌<◌, List, map, length, Some}
use Rattle.hum_score.specs.Row.{Row}
use Rattle.hum_assemble.specs.Groups.{by_groups, fault_by_groups}
use Rattle.hum_turns.specs.Flow.{Flow}
use Rattle.hum_turns.specs.Plan.{inputs_end, or_own}
use Rattle.hum_turns.specs.Meaning.{meaning}
use Rattle.hum_nodes.specs.Single.{own_end}
use Rattle.hum_nodes.specs.Merging.{inputs_of}
use Rattle.hum_nodes.specs.Trees.{Part, Beside, IsTree, part_at, plan_of}

-- The groups of some flows, side by side, by the stage of this number. It ends by the lowest-numbered
-- fault of these, else by the rule that the first record would break that isn't given.
abbrev pub merged : ℕ → List (Flow Row) → Flow Row
merged number flows = record {
  items = by_groups (inputs_of flows);
  end = Some (or_own (inputs_end flows) (own_end (fault_by_groups number (inputs_of flows))));
}

-- Stage k of a plan, from 0, puts these side by side.
pub record PutsBeside (parts : List Part) (k : ℕ) (from : List ℕ) : Type 0 where
  pub plan : IsTree parts
  pub within : k < length parts
  pub part : part_at parts k ≡ Beside from

abbrev pub MergesByGroups : Type 0
MergesByGroups = (parts : List Part) (k : ℕ) (from : List ℕ) → PutsBeside parts k from
    → meaning (plan_of parts) k ≡ merged (k + 1) (map (meaning (plan_of parts)) from)
