use Rattle.std.proofs.Common.{ℕ, ◌∙◌, ◌≡◌, List, Option, Some, refl, sym, get_or, subst}
use Rattle.std.proofs.lemmas.Option.{same_Some}
use Rattle.hum_stage.specs.declared.faults.End.{End}
use Rattle.hum_stage.specs.declared.contract.Stage.{Ghosts as Stage}
use Rattle.hum_nodes.specs.At.{At, doing_of}
use Rattle.hum_nodes.specs.Doing as does
use Rattle.hum_nodes.specs.declared.node.Node.{Node}
use Rattle.hum_stage.specs.declared.faults.Readiness.TheVariants as kinds
use Rattle.hum_nodes.specs.Nodes.{StandsAs}
use Rattle.hum_engine.specs.declared.web.Web.{Web}
use Rattle.hum_engine.specs.Scene.{Scene, HasActor, IsAbout, IsDoing}
use Rattle.hum_engine.proofs.Doings.{done_about}
use Rattle.hum_engine.proofs.Feeding.{node_at}
use Rattle.hum_engine.proofs.Polling.{state_at}
use Rattle.hum_engine.proofs.Readying.{touched_ends}
use Rattle.hum_engine.proofs.Turning.{acting, stage_too}
use Rattle.hum_engine.proofs.Stepping.{has_done}
use Rattle.hum_engine.proofs.web.Web.close.Goals as goal

-- a stage that is done tells this end
ends : {S R : Type 0} {stage : Stage S} {k : ℕ} {web : Web S R} {node : Node S R}
    {answer : Option End} {end : End} {s : Scene} → IsDoing stage k web kinds.Done → HasActor stage k web s
    → node ≡ get_or web.nodes.items k node
    → ((rest : List ℕ) (t : At) (e : End) → StandsAs stage.stands node rest t → doing_of t ≡ does.Done e → answer ≡ Some e)
    → answer ≡ Some end → IsAbout stage k (does.Done end) web s
ends {S} {R} {stage} {k} {web} {node} {answer} {end} {s} doing h value tells is =
    let d = done_about (doing.1 s h.at h.less) refl in
    let e = tells (s.rests k) _ d.0 (h.at.stand.nodes k node (node_at h.less h.at.stand value)) d.1.does in
    subst (λ f. IsAbout stage k (does.Done f) web s) (same_Some d.0 end (sym e ∙ is)) d.1

pub finish-requires : goal.finish-requires
finish-requires g c =
    record {
      scene = c.requires.turn.scene;
      holds = acting (ends c.requires.done c.requires.turn.holds.actor c.index.ensures c.end.ensures c.in-Some.is)
          c.requires.turn.holds.ready;
    }

pub returns-in-Some-clause-done : goal.returns-in-Some-clause-done
returns-in-Some-clause-done g c s turn =
    let may = acting (ends c.requires.done turn.actor c.index.ensures c.end.ensures c.in-Some.is) turn.ready in
    has_done (state_at s s.links c.args.k may.about.actor.less may.about.does) (c.finish.ensures.ended s may)

pub returns-in-Some-clause-link : goal.returns-in-Some-clause-link
returns-in-Some-clause-link g c s actor =
    let h = stage_too c.requires.turn.holds.actor actor in
    touched_ends (ends c.requires.done h c.index.ensures c.end.ensures c.in-Some.is)

pub returns-in_default : goal.returns-in_default
returns-in_default g c =
    let d = done_about (c.requires.done.1 _ c.requires.turn.holds.actor.at c.requires.turn.holds.actor.less) refl in
    absurd (c.in_default.not-Some d.0 (c.end.ensures _ _ d.0
    (c.requires.turn.holds.actor.at.stand.nodes c.args.k _ (node_at c.requires.turn.holds.actor.less c.requires.turn.holds.actor.at.stand
    c.index.ensures)) d.1.does))
