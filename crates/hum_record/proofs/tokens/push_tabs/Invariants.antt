use Rattle.std.proofs.Common.{◌≤◌, ◌+◌, ◌-◌, ◌++◌, length}
use Rattle.hum_record.specs.Cutting.{tabs_from}
use Rattle.hum_record.proofs.Places.{Pending}
use Rattle.hum_record.proofs.tokens.push_tabs.Given as goal

abbrev pub invariant-loop-rest : goal.invariant-loop-rest
invariant-loop-rest l =
    (l.start ≤ l.at) × Pending l.block l.start l.at l.rest l.ends.items (l.initial.ends.items ++ tabs_from l.start l.block)

abbrev pub decreases-loop-rest : goal.decreases-loop-rest
decreases-loop-rest l = l.start + length l.block + 1 - l.at
