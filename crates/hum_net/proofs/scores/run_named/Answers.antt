use Rattle.hum_net.proofs.Bundling.{run_comes, pick_plan, end_plan, drive_plan}
use Rattle.hum_net.proofs.Bundling.{lacking_one, lacking_comes, lacking_may}
use Rattle.hum_net.proofs.Bundling.{unrun_ends, unrun_picks, unrun_drives, unrun_marked, unrun_unread}
use Rattle.hum_net.proofs.scores.run_named.Goals as goal

-- It was run.

pub returns-clause-comes : goal.returns-clause-comes
returns-clause-comes g c text plan known =
    let there = c.in-Ok.ensures.there known in
    let told = c.in-Ok.ensures.told known in
    run_comes _ _ _ _ _ _ plan there (c.run_stages-end.ensures.wrote _ told)

pub returns-clause-picked : goal.returns-clause-picked
returns-clause-picked g c text plan known =
    let told = c.in-Ok.ensures.told known in
    pick_plan _ _ _ _ _ plan (c.run_stages-end.ensures.picked _ told)

pub returns-clause-ended : goal.returns-clause-ended
returns-clause-ended g c text plan known =
    let told = c.in-Ok.ensures.told known in
    end_plan _ _ _ _ _ plan (c.run_stages-end.ensures.ended _ told)

pub returns-clause-drives : goal.returns-clause-drives
returns-clause-drives g c text plan = drive_plan plan c.run_stages-end.ensures.driven

-- It lacks a score.

pub returns-in-Err-clause-comes : goal.returns-in-Err-clause-comes
returns-in-Err-clause-comes g c text plan known = lacking_comes _ _ _ _ _ plan
    (c.in-Err.ensures.lacks_now known)

pub returns-in-Err-clause-picked : goal.returns-in-Err-clause-picked
returns-in-Err-clause-picked g c text plan known =
    unrun_picks _ _ _ _ _ _ (lacking_one _ _ c.in-Err.ensures.lacks)

pub returns-in-Err-clause-ended : goal.returns-in-Err-clause-ended
returns-in-Err-clause-ended g c text plan known =
    unrun_ends _ _ _ _ _ _ _ _ (lacking_one _ _ c.in-Err.ensures.lacks)

pub returns-in-Err-clause-may : goal.returns-in-Err-clause-may
returns-in-Err-clause-may g c text plan = lacking_may _ _ plan
    (c.in-Err.ensures.lacks)

pub returns-in-Err-clause-drives : goal.returns-in-Err-clause-drives
returns-in-Err-clause-drives g c text plan =
    unrun_drives _ _ _ _ _ _ _ (lacking_one _ _ c.in-Err.ensures.lacks)

pub returns-in-Err-clause-marked : goal.returns-in-Err-clause-marked
returns-in-Err-clause-marked g c = unrun_marked _ _ (lacking_one _ _ c.in-Err.ensures.lacks)

pub returns-in-Err-clause-unread : goal.returns-in-Err-clause-unread
returns-in-Err-clause-unread g c never = unrun_unread _ (lacking_one _ _ c.in-Err.ensures.lacks)
