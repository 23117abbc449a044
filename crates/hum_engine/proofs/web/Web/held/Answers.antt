use Rattle.std.proofs.lemmas.Bool.Decides.{nat_tests}
use Rattle.std.proofs.Common.{◌∙◌, sym, arith}
use Rattle.std.proofs.lemmas.List.{length-map}
use Rattle.hum_turns.specs.Links.{view}
use Rattle.hum_nodes.proofs.Standing.{source_bytes, stage_bytes}
use Rattle.hum_engine.proofs.Feeding.{node_at}
use Rattle.hum_engine.proofs.Turning.{held_none, held_some}
use Rattle.hum_engine.proofs.web.Web.held.Goals as goal

pub returns-then-is_source-clause-held : goal.returns-then-is_source-clause-held
returns-then-is_source-clause-held g c s h =
    held_none s s.links c.args.k h.less
    (source_bytes g.S.Stage.stands _ (s.rests c.args.k) _ (sym c.is_source.ensures ∙ c.if-is_source.true)
    (h.stand.nodes c.args.k _ (node_at h.less h.stand c.index-node.ensures)))

pub returns-clause-held : goal.returns-clause-held
returns-clause-held g c s h =
    let st = h.stand.nodes c.args.k _ (node_at h.less h.stand c.index-node.ensures) in
    c.held.ensures.held (s.rests c.args.k) _ st ∙ held_some s s.links c.args.k h.less
    (stage_bytes g.S.Stage.stands _ (s.rests c.args.k) _ (sym c.is_source.ensures ∙ c.if-is_source.false) st)

pub returns-clause-few : goal.returns-clause-few
returns-clause-few g c s h one =
    let few = c.held.ensures.few _ _ (h.stand.nodes c.args.k _ (node_at h.less h.stand c.index-node.ensures)) one in
    omega (arith, few, length-map (s.kinds c.args.k).stage.sources (λ i. view (s.links i)))

pub returns-then-k-len : goal.returns-then-k-len
returns-then-k-len = grind (arith, nat_tests)
