use Rattle.std.proofs.Common.{◌≡◌, take, map}
use Rattle.hum_score.specs.Spines.{exclusives}
use Rattle.hum_cells.specs.Rewriting.{is_kern}
use Rattle.hum_cells.proofs.cells.mark_kern.Given as goal

abbrev pub invariant-loop-j : goal.invariant-loop-j
invariant-loop-j l = l.kern.items ≡ map is_kern (take l.j (exclusives l.paths.path))
