use Rattle.std.proofs.Common.{◌≡◌, ◌+◌, ◌-◌, ◌≤◌, drop, length}
use Rattle.hum_kern.specs.Runs.{run}
use Rattle.hum_timebase.specs.Reading.{is_part}
use Rattle.hum_timebase.proofs.notes.first_space.Given as goal

abbrev pub invariant-loop-n : goal.invariant-loop-n
invariant-loop-n l = record {
  within : l.n ≤ length l.text;
  run : l.n + run is_part (drop l.n l.text) ≡ run is_part l.text;
}

abbrev pub decreases-loop-n : goal.decreases-loop-n
decreases-loop-n l = length l.text - l.n
