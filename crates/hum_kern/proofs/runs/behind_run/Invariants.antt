use Rattle.std.proofs.Common.{◌≡◌, length}
use Rattle.hum_kern.specs.Runs.{behind}
use Rattle.hum_kern.specs.Classes.{is_in}
use Rattle.hum_kern.proofs.runs.behind_run.Given as goal

abbrev pub invariant-loop-rest : goal.invariant-loop-rest
invariant-loop-rest l = behind (is_in l.class) l.rest ≡ behind (is_in l.class) l.bytes

abbrev pub decreases-loop-rest : goal.decreases-loop-rest
decreases-loop-rest l = length l.rest
