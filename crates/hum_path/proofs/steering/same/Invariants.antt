use Rattle.std.proofs.Common.{◌≡◌, ◌++◌, ◌-◌}
use Rattle.hum_score.specs.Spines.{same_upto}
use Rattle.hum_path.proofs.steering.same.Given as goal

abbrev pub invariant-loop-j : goal.invariant-loop-j
invariant-loop-j l = l.moves.items ++ same_upto l.j (l.width - l.j) ≡ same_upto 0 l.width
