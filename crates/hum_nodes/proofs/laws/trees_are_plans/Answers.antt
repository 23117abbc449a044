use Rattle.hum_turns.proofs.Faults.{whose_fault}
use Rattle.hum_nodes.proofs.TreeLaws.{is_plan, is_numbered}
use Rattle.hum_nodes.proofs.laws.trees_are_plans.Goals as goal

pub returns : goal.returns
returns c parts h =
    let plan = is_plan parts h in
    let numbered = is_numbered parts h in
    record {
      plan = plan;
      numbered = numbered;
      end = whose_fault _ plan numbered;
    }
