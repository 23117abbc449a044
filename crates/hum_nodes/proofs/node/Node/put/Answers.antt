use Rattle.std.proofs.Common.{inr, refl, ap}
use Rattle.hum_assemble.specs.Change.{More}
use Rattle.hum_nodes.proofs.Mergings as merging
use Rattle.hum_nodes.proofs.Singles as single
use Rattle.hum_nodes.proofs.Standing.{alone_as, as_merging, merging_stands, put_stands}
use Rattle.hum_nodes.specs.Nodes.{commands}
use Rattle.hum_nodes.proofs.node.Node.put.Goals as goal

pub put_with-requires-clause-may : goal.put_with-requires-clause-may
put_with-requires-clause-may g c =
    let place = c.requires.may.0 in
    let may = c.requires.may.1 in
    inr (single.may_put (alone_as c.in-Command.is may.stand may.holds.wants (λ e. cc)).1 c.args.next place may.holds)

pub put_with-requires-clause-empty : goal.put_with-requires-clause-empty
put_with-requires-clause-empty g c =
    let may = c.requires.may.1 in
    (alone_as c.in-Command.is may.stand may.holds.wants (λ e. cc)).0

pub put_with-requires-in-Assemble : goal.put_with-requires-in-Assemble
put_with-requires-in-Assemble g c =
    let place = c.requires.may.0 in
    let may = c.requires.may.1 in
    inr (place, merging.may_put (as_merging c.in-Assemble.is may.stand) c.args.next refl may.holds)

pub returns-in_ok-self-in-Command-clause-put : goal.returns-in_ok-self-in-Command-clause-put
returns-in_ok-self-in-Command-clause-put g c rest place t h may =
    put_stands place c.in-Command.is h may c.in_ok-self-in-Command.ensures.ok c.in_ok-self-in-Command.ensures.ready

pub returns-in_ok-self-in-Assemble-clause-put : goal.returns-in_ok-self-in-Assemble-clause-put
returns-in_ok-self-in-Assemble-clause-put g c rest place t h may =
    let m = as_merging c.in-Assemble.is h in
    let works = merging.changed m (More c.args.next) refl may.wants
    (c.in_ok-self-in-Assemble.ensures.ok place (merging.may_put m c.args.next refl may)) in
    merging_stands g.S.Stage.stands {sources = c.in-Assemble.sources} works (h.alone (ap commands c.in-Assemble.is))
    c.in_ok-self-in-Assemble.ensures.ready c.wanted-self.ensures c.deref.ensures.value
