use Rattle.std.proofs.Common.{ap}
use Rattle.hum_nodes.specs.Nodes.{StandsAs, commands}
use Rattle.hum_nodes.proofs.Mergings.{taken}
use Rattle.hum_nodes.proofs.Standing.{as_merging, merging_stands}
use Rattle.hum_nodes.proofs.node.Node.take.Goals as goal

pub returns-in_ok-taken-in-Assemble-clause-taken : goal.returns-in_ok-taken-in-Assemble-clause-taken
returns-in_ok-taken-in-Assemble-clause-taken g c rest t h =
    let r = c.in_ok-taken-in-Assemble in
    taken (as_merging c.in-Assemble.is h) _ _ r.ensures.ok (StandsAs g.S.Stage.stands _ rest)
    (λ u at. merging_stands g.S.Stage.stands {sources = c.in-Assemble.sources} at
    (h.alone (ap commands c.in-Assemble.is)) r.ensures.ready c.wanted-self.ensures c.deref.ensures.value)
