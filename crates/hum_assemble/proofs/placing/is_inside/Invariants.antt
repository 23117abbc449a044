use Rattle.std.proofs.Common.{◌≡◌, drop}
use Rattle.std.specs.List.{list_any}
use Rattle.hum_score.specs.Spelling.{is_empty}
use Rattle.hum_score.specs.Spines.{exclusives}
use Rattle.hum_assemble.proofs.placing.is_inside.Given as goal

abbrev pub invariant-loop-j : goal.invariant-loop-j
invariant-loop-j l =
    list_any is_empty (drop l.j (exclusives l.paths.path))
    ≡ list_any is_empty (exclusives l.paths.path)
