use Rattle.std.proofs.Common.{take, drop}
use Rattle.std.proofs.lemmas.List.{take-append-drop}
use Rattle.hum_score.specs.Spines.{Unopened}
use Rattle.hum_stage.proofs.Growth.{Follow-front}
use Rattle.hum_tests.proofs.serving.without_last.Goals as goal

pub returns-clause-score : goal.returns-clause-score
returns-clause-score c =
    let xs = c.args.records.items in
    let n = c.saturating_sub-len.result in
    rw c.truncate.ensures.items
    (Follow-front Unopened (take n xs) (drop n xs) (rw (take-append-drop n xs) c.requires.closed.0))
