use Rattle.std.proofs.Common.{◌≡◌, ◌++◌, take, drop}
use Rattle.hum_score.specs.Row.{tokens_of}
use Rattle.hum_path.specs.Memories.{seen_each}
use Rattle.hum_path.proofs.carried.see_each.Given as goal

abbrev pub invariant-loop-j : goal.invariant-loop-j
invariant-loop-j g l =
    let see = g.M.ColumnMemory.seen l.initial.rule in
    (take l.j l.memories.items ++ seen_each see (drop l.j (tokens_of l.row))
    (drop l.j l.memories.items) ≡ seen_each see (tokens_of l.row) l.initial.memories.items)
    × (l.rule ≡ l.initial.rule)
