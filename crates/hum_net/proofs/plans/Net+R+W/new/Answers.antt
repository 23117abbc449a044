use Rattle.std.proofs.Common.{◌∙◌, ap, sym}
use Rattle.hum_plan.specs.Seen.{stages_of}
use Rattle.hum_net.specs.Nodes.{readers_of}
use Rattle.hum_net.proofs.Planning.{counted}
use Rattle.hum_net.proofs.plans.Net+R+W.new.Goals as goal

pub of_stages-requires-clause-tree : goal.of_stages-requires-clause-tree
of_stages-requires-clause-tree g c = rw c.deref.ensures.value c.into_stages.ensures.tree

pub of_stages-requires-clause-readers : goal.of_stages-requires-clause-readers
of_stages-requires-clause-readers g c =
    rw c.deref.ensures.value (ap readers_of c.into_stages.ensures.stages ∙ sym (counted c.args.plan) ∙ c.requires.readers)

pub returns-clause-opens : goal.returns-clause-opens
returns-clause-opens g c =
    let is = ap stages_of c.deref.ensures.value ∙ c.into_stages.ensures.stages in
    rw is at c.of_stages.ensures.opens

pub returns-clause-tells : goal.returns-clause-tells
returns-clause-tells g c =
    let is = ap stages_of c.deref.ensures.value ∙ c.into_stages.ensures.stages in
    rw is at c.of_stages.ensures.tells
