use Rattle.std.proofs.Common.{arith, refl, ◌≡◌, length}
use Rattle.hum_nodes.proofs.Mergings.{fresh_stands}
use Rattle.hum_nodes.proofs.Standing.{merging_stands}
use Rattle.hum_nodes.proofs.node.Node.assemble.Goals as goal

pub returns-clause-stands : goal.returns-clause-stands
returns-clause-stands g c rest =
    let count : c.len.result ≡ length c.args.sources.items = omega (arith, c.len.ensures, c.args.sources.ok.0) in
    merging_stands g.S.Stage.stands
    (fresh_stands c.args.number c.len.result c.args.sources.items count c.in_ok-stage.ensures.stands) refl
    c.readiness-behind.ensures c.wanted-from.ensures c.deref.ensures.value
