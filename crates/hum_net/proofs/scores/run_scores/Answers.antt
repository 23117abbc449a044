use Rattle.hum_net.proofs.Bundling.{refused, refused_comes, refused_may}
use Rattle.hum_net.proofs.Bundling.{unrun_ends, unrun_picks, unrun_drives, unrun_marked, unrun_unread}
use Rattle.hum_net.proofs.scores.run_scores.Goals as goal

-- It was run.

pub run_named-requires-clause-tree : goal.run_named-requires-clause-tree
run_named-requires-clause-tree g c = rw c.deref.ensures.value c.in-Ok.ensures.tree

pub returns-clause-comes : goal.returns-clause-comes
returns-clause-comes g c known = c.run_named.ensures.comes c.args.text.now (rw c.deref.ensures.value c.in-Ok.ensures.plan) known

pub returns-clause-picked : goal.returns-clause-picked
returns-clause-picked g c known = c.run_named.ensures.picked c.args.text.now (rw c.deref.ensures.value c.in-Ok.ensures.plan) known

pub returns-clause-ended : goal.returns-clause-ended
returns-clause-ended g c known = c.run_named.ensures.ended c.args.text.now (rw c.deref.ensures.value c.in-Ok.ensures.plan) known

pub returns-clause-may : goal.returns-clause-may
returns-clause-may g c = c.run_named.ensures.may c.args.text.now (rw c.deref.ensures.value c.in-Ok.ensures.plan)

pub returns-clause-drives : goal.returns-clause-drives
returns-clause-drives g c = c.run_named.ensures.drives c.args.text.now (rw c.deref.ensures.value c.in-Ok.ensures.plan)

-- It is no plan.

pub returns-in-Err-clause-comes : goal.returns-in-Err-clause-comes
returns-in-Err-clause-comes g c known = refused_comes _ _ _ _ _ c.in-Err.ensures.refused

pub returns-in-Err-clause-picked : goal.returns-in-Err-clause-picked
returns-in-Err-clause-picked g c known = unrun_picks _ _ _ _ _ _ (refused _ _ c.in-Err.ensures.refused)

pub returns-in-Err-clause-ended : goal.returns-in-Err-clause-ended
returns-in-Err-clause-ended g c known = unrun_ends _ _ _ _ _ _ _ _ (refused _ _ c.in-Err.ensures.refused)

pub returns-in-Err-clause-may : goal.returns-in-Err-clause-may
returns-in-Err-clause-may g c = refused_may _ _ c.in-Err.ensures.refused

pub returns-in-Err-clause-drives : goal.returns-in-Err-clause-drives
returns-in-Err-clause-drives g c = unrun_drives _ _ _ _ _ _ _ (refused _ _ c.in-Err.ensures.refused)

pub returns-in-Err-clause-marked : goal.returns-in-Err-clause-marked
returns-in-Err-clause-marked g c = unrun_marked _ _ (refused _ _ c.in-Err.ensures.refused)

pub returns-in-Err-clause-unread : goal.returns-in-Err-clause-unread
returns-in-Err-clause-unread g c never = unrun_unread _ (refused _ _ c.in-Err.ensures.refused)
