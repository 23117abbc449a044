use Rattle.std.proofs.Common.{◌≡◌, ◌+◌, ◌-◌, ◌≤◌, drop, length}
use Rattle.hum_score.specs.Spines.{joins_at_front}
use Rattle.hum_path.proofs.steering.joins_at_front.Given as goal

abbrev pub invariant-loop-end : goal.invariant-loop-end
invariant-loop-end l = record {
  high : l.end ≤ length l.signs;
  run : l.end + joins_at_front (drop l.end l.signs) ≡ joins_at_front l.signs;
}

abbrev pub decreases-loop-end : goal.decreases-loop-end
decreases-loop-end l = length l.signs - l.end
