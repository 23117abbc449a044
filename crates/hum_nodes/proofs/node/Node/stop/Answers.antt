use Rattle.std.proofs.Common.{◌∙◌, inr, ap}
use Rattle.hum_assemble.specs.Change.{Ends}
use Rattle.hum_stage.specs.Meaning.{after_end, readiness_by}
use Rattle.hum_nodes.specs.At.{with_end}
use Rattle.hum_nodes.specs.Nodes.{commands}
use Rattle.hum_nodes.proofs.Mergings as merging
use Rattle.hum_nodes.proofs.Singles as single
use Rattle.hum_nodes.proofs.Standing.{alone_as, as_merging, merging_stands, single_stands}
use Rattle.hum_nodes.proofs.node.Node.stop.Goals as goal

pub end-requires : goal.end-requires
end-requires g c =
    let place = c.requires.may.0 in
    let may = c.requires.may.1 in
    inr (single.may_end (alone_as c.in-Command.is may.stand may.holds.wants (λ e. cc)).1 c.args.end place may.holds)

pub end-requires-in-Assemble : goal.end-requires-in-Assemble
end-requires-in-Assemble g c =
    let may = c.requires.may.1 in
    let m = as_merging c.in-Assemble.is may.stand in
    inr (merging.may_end m c.args.end (c.unwrap_or.ensures ∙ merging.wanted_place m c.wants.ensures.wanted may.holds.wants)
    may.holds)

pub returns-in-Command-clause-stopped : goal.returns-in-Command-clause-stopped
returns-in-Command-clause-stopped g c rest place t h may =
    let s = alone_as c.in-Command.is h may.wants (λ e. cc) in
    let w = s.1 in
    let k = single.changes w (with_end c.args.end) place may in
    single_stands g.S.Stage.stands (record {
      moment = after_end w.moment c.args.end;
      stand = c.end.ensures.ended w.moment w.stand k.ended;
      kind = w.kind;
      inputs = k.inputs;
      given = w.given;
    }) s.0 (λ m stand. c.readiness_by-self.ensures ∙ ap readiness_by (c.state.ensures m stand))

pub returns-in-Assemble-clause-stopped : goal.returns-in-Assemble-clause-stopped
returns-in-Assemble-clause-stopped g c rest place t h may =
    let m = as_merging c.in-Assemble.is h in
    let at = c.unwrap_or.ensures ∙ merging.wanted_place m c.wants.ensures.wanted may.wants in
    merging_stands g.S.Stage.stands {sources = c.in-Assemble.sources}
    (merging.changed m (Ends c.args.end) at may.wants c.end-in-Assemble.ensures.ended)
    (h.alone (ap commands c.in-Assemble.is)) c.readiness-self.ensures c.wanted-self.ensures c.deref.ensures.value
