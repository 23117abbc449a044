use Rattle.std.proofs.Common.{drop}
use Rattle.hum_net.specs.Nodes.{Fits, Tells}
use Rattle.hum_net.proofs.Building.{Built}
use Rattle.hum_net.proofs.nodes.plan_nodes.Given as goal

abbrev pub invariant-loop-stage : goal.invariant-loop-stage
invariant-loop-stage g l = Built (Fits g.S.Stage) (Tells g.R.Source.remaining) g.R.Source.remaining
    l.stages (drop l.stage-index l.stages) l.initial.left.items l.left.items l.nodes.items
