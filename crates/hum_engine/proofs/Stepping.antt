-- The turn of a stage that isn't a source, by the kind of what it does next.
use Rattle.std.proofs.lemmas.Bool.Decides.{nat_tests}
use Rattle.std.proofs.Common.{◌≡◌, ℕ, sym, subst, arith}
use Rattle.hum_stage.specs.declared.contract.Stage.{Ghosts as Stage}
use Rattle.hum_turns.specs.Plan.{last}
use Rattle.hum_turns.specs.Near.{touched}
use Rattle.hum_turns.specs.Turns.{State, state}
use Rattle.hum_engine.specs.declared.web.Web.{Web}
use Rattle.hum_engine.specs.Scene.{Scene, plan_of, Done}

pub has_done : {S R : Type 0} {stage : Stage S} {k : ℕ} {new : Web S R} {s : Scene} {does : State}
    → state (plan_of s) s.links k ≡ does → Done stage k does new s → Done stage k (state (plan_of s) s.links k) new s
has_done {S} {R} {stage} {k} {new} {s} is done = subst (λ d. Done stage k d new s) (sym is) done

-- the link that the sink takes from
pub sink_touches : (s : Scene) (k link : ℕ) → k ≡ s.count → link ≡ last (plan_of s)
    → link ≡ touched k (state (plan_of s) s.links k)
sink_touches = grind (arith, nat_tests)
