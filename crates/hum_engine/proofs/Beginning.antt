-- Nodes that were asked nothing yet, and links over which nothing has passed.
use Rattle.std.proofs.lemmas.Bool.Decides.{nat_tests}
use Rattle.std.proofs.Common.{◌≡◌, ◌∙◌, ◌⊎◌, ℕ, suc, List, [], ◌∷◌, ◌++◌, length, Some, sym, subst}
use Rattle.std.proofs.Common.{slice_get, arith}
use Rattle.hum_score.specs.Row.{Row}
use Rattle.hum_stage.specs.declared.contract.Stage.{Ghosts as Stage}
use Rattle.hum_turns.specs.Links.{Moment, fresh, IsOpening}
use Rattle.hum_nodes.specs.At.{Kind, fresh as fresh_at}
use Rattle.hum_nodes.specs.Nodes.{StandsAs}
use Rattle.hum_engine.specs.declared.link.Link as port
use Rattle.hum_engine.specs.Links.{IsLink}
use Rattle.hum_engine.specs.declared.web.Web.{Web}
use Rattle.hum_engine.specs.Scene.{Scene, at_of, IsBegun, Stands}

pub push_cases : {X : Type 0} (xs : List X) (y : X) (k : ℕ) (x : X)
    → slice_get (xs ++ y ∷ []) k ≡ Some x → (slice_get xs k ≡ Some x) ⊎ (y ≡ x)
push_cases (z ∷ xs) y (suc k) x h = push_cases xs y k x h
push_cases xs y k x h = grind (arith, nat_tests)

at_fresh : (kinds : ℕ → Kind) (m : Moment Row) → IsOpening m → (k : ℕ)
    → at_of kinds m k ≡ fresh_at (kinds k)
at_fresh = grind (arith, nat_tests)

pub begins : {S R : Type 0} {stage : Stage S} {size : ℕ} {web : Web S R} {s : Scene}
    → IsOpening s.links → IsBegun stage size web.nodes.items s
    → length web.links.items ≡ length web.nodes.items
    → ((k : ℕ) (link : port.Link) → slice_get web.links.items k ≡ Some link → IsLink size link fresh)
    → Stands stage web s
begins {stage = stage} {size = size} {s = s} opening begun count each = record {
  count = begun.count;
  as_many = count ∙ begun.count;
  nodes = λ k node at.
      subst (StandsAs stage.stands node (s.rests k)) (sym (at_fresh s.kinds s.links opening k)) (begun.stand k node at);
  links = λ k link at.
      subst (λ l. IsLink s.size link l) (sym (opening k))
      (subst (λ n. IsLink n link fresh) (sym begun.of_size) (each k link at));
}
