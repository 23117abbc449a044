use Rattle.std.proofs.Common.{refl, sym}
use Rattle.hum_net.proofs.bundles.run_bundle.Goals as goal

pub returns-clause-comes : goal.returns-clause-comes
returns-clause-comes g c =
    rw (sym c.if-is_too_large.ensures) (rw c.plan_part.ensures at (c.run_scores.ensures.comes refl))

pub returns-clause-picked : goal.returns-clause-picked
returns-clause-picked g c = rw c.plan_part.ensures at (c.run_scores.ensures.picked refl)

pub returns-clause-ended : goal.returns-clause-ended
returns-clause-ended g c = rw c.plan_part.ensures at (c.run_scores.ensures.ended refl)
