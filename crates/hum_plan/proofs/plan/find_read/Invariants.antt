use Rattle.std.proofs.Common.{◌≡◌, drop, slice_get}
use Rattle.hum_plan.specs.Seen.{stages_of}
use Rattle.hum_plan.specs.Stages.{reads_of, reads_behind}
use Rattle.hum_plan.proofs.plan.find_read.Given as goal

abbrev pub invariant-loop-index : goal.invariant-loop-index
invariant-loop-index l =
    slice_get (reads_of (stages_of l.stages)) l.k ≡ slice_get
    (reads_behind l.index (stages_of (drop l.index l.stages))) l.left
