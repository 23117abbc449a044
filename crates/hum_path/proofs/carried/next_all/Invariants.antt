use Rattle.std.proofs.Common.{◌≡◌, ◌++◌, drop, map}
use Rattle.hum_score.specs.Row.{tokens_of}
use Rattle.hum_path.specs.Memories.{memory_of}
use Rattle.hum_path.proofs.carried.next_all.Given as goal

abbrev pub invariant-loop-i : goal.invariant-loop-i
invariant-loop-i g l =
    let next = memory_of (g.M.ColumnMemory.seen l.initial.rule) g.M.ColumnMemory.beginning (tokens_of l.row) l.memories in
    (l.next.items ++ map next (drop l.i l.found) ≡ map next l.found)
    × (l.rule ≡ l.initial.rule)
