use Rattle.std.proofs.Common.{◌≡◌, drop, length}
use Rattle.hum_nodes.specs.At.{set_each}
use Rattle.hum_nodes.proofs.node.Node.note_sources.Given as goal

abbrev pub invariant-loop-source : goal.invariant-loop-source
invariant-loop-source g l =
    (set_each (drop l.source-index l.source-items) l.number l.takers ≡ set_each l.source-items l.number l.fn.takers)
    × (length l.takers ≡ length l.fn.takers)
