use Rattle.std.proofs.Common.{◌≡◌}
use Rattle.hum_score.specs.Spines.{Unopened}
use Rattle.hum_score.specs.InOrder.{Follow, through}
use Rattle.hum_tests.proofs.scores.score.Given as goal

abbrev pub invariant-loop-line : goal.invariant-loop-line
invariant-loop-line g l =
    Follow Unopened l.records.items × (l.paths.path ≡ through Unopened l.records.items)
