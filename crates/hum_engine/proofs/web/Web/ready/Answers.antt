use Rattle.std.proofs.Common.{◌∙◌, refl, sym}
use Rattle.hum_engine.proofs.Answered.{may_can, can_ready}
use Rattle.hum_engine.proofs.Doings.{doing_is}
use Rattle.hum_engine.proofs.Readying.{below, below_some}
use Rattle.hum_engine.proofs.Turning.{kind_at}
use Rattle.hum_engine.proofs.web.Web.ready.Goals as goal

pub may_read-requires-clause-source : goal.may_read-requires-clause-source
may_read-requires-clause-source g c =
    kind_at (below_some c.requires (c.len.ensures ∙ c.args.self.now.nodes.ok.0) c.if-k-len.false).holds
    c.index-node.ensures (sym c.is_source.ensures ∙ c.if-is_source.true)

pub can-requires : goal.can-requires
can-requires g c =
    let h = below_some c.requires (c.len.ensures ∙ c.args.self.now.nodes.ok.0) c.if-k-len.false in
    may_can (doing_is h c.index-node.ensures c.readiness.ensures refl (sym c.is_source.ensures ∙ c.if-is_source.false)) h

pub returns : goal.returns
returns g c s actor =
    can_ready (doing_is (below_some c.requires (c.len.ensures ∙ c.args.self.now.nodes.ok.0) c.if-k-len.false)
    c.index-node.ensures c.readiness.ensures refl (sym c.is_source.ensures ∙ c.if-is_source.false))
    (below actor (c.len.ensures ∙ c.args.self.now.nodes.ok.0) c.if-k-len.false) c.can.ensures
