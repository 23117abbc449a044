use Rattle.std.proofs.Common.{◌≡◌, ◌≤◌, ◌+◌, drop, length}
use Rattle.hum_plan.specs.Seen.{stages_of}
use Rattle.hum_plan.specs.Stages.{reads_of, reads_behind}
use Rattle.hum_plan.proofs.plan.count_reads.Given as goal

abbrev pub invariant-loop-stage : goal.invariant-loop-stage
invariant-loop-stage l = record {
  count : length (reads_of (stages_of l.stages)) ≡ l.count + length
      (reads_behind l.stage-index (stages_of (drop l.stage-index l.stages)));
  bound : l.count ≤ l.stage-index;
}
