-- What a stage does next, by its kind.
use Rattle.std.proofs.lemmas.Bool.Decides.{nat_tests}
use Rattle.std.proofs.Common.{◌≡◌, ◌∙◌, ℕ, false, List, Some, slice_get, get_or, sym, ap, arith}
use Rattle.hum_stage.specs.declared.faults.End.{End}
use Rattle.hum_stage.specs.declared.contract.Stage.{Ghosts as Stage}
use Rattle.hum_nodes.specs.At.{At, doing_of, readiness_of}
use Rattle.hum_nodes.specs.declared.node.Node.{Node}
use Rattle.hum_nodes.specs.Doing.{Doing}
use Rattle.hum_nodes.specs.Doing as does
use Rattle.hum_stage.specs.declared.faults.Readiness.{Readiness}
use Rattle.hum_stage.specs.declared.faults.Readiness.TheVariants as kind
use Rattle.hum_engine.specs.declared.web.Web.{Web}
use Rattle.hum_nodes.specs.Nodes.{is_source, readiness_at, StandsAs}
use Rattle.hum_nodes.proofs.Standing.{stage_bytes}
use Rattle.hum_engine.specs.Scene.{Scene, at_of, HasActor, IsAbout, IsAboutKind, IsDoing, Somewhere}
use Rattle.hum_engine.proofs.Feeding.{node_at}
use Rattle.hum_engine.proofs.Readying.{never}
use Rattle.hum_engine.proofs.Turning.{one_kind}

pub gives_of : (d : Doing) → readiness_of d ≡ kind.Gives → (d ≡ does.Reads → ⊥) → d ≡ does.Gives
gives_of d h never = grind (arith, h, never)

pub wants_of : (d : Doing) → readiness_of d ≡ kind.Wants → (p : ℕ) × (d ≡ does.Wants p)
wants_of = grind (arith, nat_tests)

done_of : (d : Doing) → readiness_of d ≡ kind.Done → (e : End) × (d ≡ does.Done e)
done_of = grind (arith, nat_tests)

-- A stage that is about to do something of a kind is about to do that.
module _ {S R : Type 0} {stage : Stage S} {k : ℕ} {web : Web S R} {s : Scene}
    {r : Readiness} (a : IsAboutKind stage k r web s) where
  pub about_by : {doing : Doing} → doing_of (at_of s.kinds s.links k) ≡ doing → IsAbout stage k doing web s
  about_by is = record { actor = a.actor; bytes = a.bytes; does = is }

  pub gives_about : r ≡ kind.Gives → IsAbout stage k does.Gives web s
  gives_about is = about_by (gives_of _ (a.does ∙ is) (λ reads. never (about_by reads)))

  pub wants_about : r ≡ kind.Wants → (place : ℕ) × IsAbout stage k (does.Wants place) web s
  wants_about is = let w = wants_of _ (a.does ∙ is) in (w.0, about_by w.1)

  pub done_about : r ≡ kind.Done → (end : End) × IsAbout stage k (does.Done end) web s
  done_about is = let d = done_of _ (a.does ∙ is) in (d.0, about_by d.1)

-- What a node says that it does next.
module _ {S R : Type 0} {stage : Stage S} {k : ℕ} {web : Web S R} {node : Node S R} {r : Readiness}
    (h : Somewhere (HasActor stage k web)) (value : node ≡ get_or web.nodes.items k node)
    (told : (rest : List ℕ) (t : At) → StandsAs stage.stands node rest t → r ≡ readiness_at (is_source node) (doing_of t)) where
  says_at : slice_get web.nodes.items k ≡ Some node
  says_at = node_at h.holds.less h.holds.at.stand value

  -- What one does next that isn't a source is known whatever else the web stands for.
  pub doing_is : {other : Readiness} → r ≡ other → is_source node ≡ false → IsDoing stage k web other
  doing_is is none = (
    one_kind k web says_at none,
    λ u at less.
        let here = at.stand.nodes k node says_at in
        record {
          actor = record { at = at; less = less };
          bytes = stage_bytes stage.stands node (u.rests k) _ none here;
          does = sym (sym is ∙ told _ _ here ∙ ap (λ b. readiness_at b (doing_of (at_of u.kinds u.links k))) none);
        },
  )
