use Rattle.std.proofs.Common.{◌≡◌, drop}
use Rattle.hum_score.specs.Row.{tokens_of}
use Rattle.hum_cells.specs.Rewriting.{any_told}
use Rattle.hum_cells.proofs.tokens.any_told.Given as goal

abbrev pub invariant-loop-j : goal.invariant-loop-j
invariant-loop-j l = any_told (drop l.j l.kern) (drop l.j (tokens_of l.row)) ≡ any_told l.kern (tokens_of l.row)
