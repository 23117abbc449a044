use Rattle.hum_plan.proofs.Trees.{has_a_tree}
use Rattle.hum_plan.proofs.laws.plans_are_trees.Goals as goal

pub returns : goal.returns
returns c = has_a_tree
