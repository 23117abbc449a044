use Rattle.std.proofs.Common.{◌≡◌, ◌++◌, drop}
use Rattle.hum_columns.specs.Following.{moved}
use Rattle.hum_columns.proofs.marks.moved.Given as goal

abbrev pub invariant-loop-i : goal.invariant-loop-i
invariant-loop-i l = l.each.items ++ moved l.marks (drop l.i l.found) ≡ moved l.marks l.found
