use Rattle.std.proofs.Common.{◌≡◌, ◌++◌, ◌+◌, false, length}
use Rattle.hum_score.specs.Spines.{heirs_from}
use Rattle.hum_path.proofs.steering.heirs.Given as goal

abbrev pub invariant-loop-rest : goal.invariant-loop-rest
invariant-loop-rest l = record {
  place : l.j + length l.rest ≡ length l.signs;
  told : l.moves.items ++ heirs_from l.pair l.j l.after_join l.rest ≡ heirs_from l.pair 0 false l.signs;
}

abbrev pub decreases-loop-rest : goal.decreases-loop-rest
decreases-loop-rest l = length l.rest
