use Rattle.std.proofs.Common.{◌≡◌, ◌++◌, drop}
use Rattle.hum_record.specs.Selecting.{marked_from}
use Rattle.hum_record.proofs.selection.Selection.new.Given as goal

abbrev pub invariant-loop-j : goal.invariant-loop-j
invariant-loop-j l =
    l.moved.items ++ marked_from l.j (drop l.j l.marks) ≡ marked_from l.front (drop l.front l.marks)
