use Rattle.std.proofs.Common.{◌≡◌, ◌+◌, drop}
use Rattle.hum_kern.specs.Runs.{run}
use Rattle.hum_kern.specs.Classes.{is_in}
use Rattle.hum_kern.proofs.runs.run_end.Given as goal

abbrev pub invariant-loop-end : goal.invariant-loop-end
invariant-loop-end l = l.end + run (is_in l.class) (drop l.end l.bytes) ≡ l.from + run (is_in l.class) (drop l.from l.bytes)
