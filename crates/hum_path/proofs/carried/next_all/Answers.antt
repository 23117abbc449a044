use Rattle.std.proofs.Common.{◌∙◌}
use Rattle.hum_score.specs.Row.{tokens_of}
use Rattle.hum_path.specs.Memories.{memory_of}
use Rattle.hum_path.proofs.Carry.{map_more}
use Rattle.hum_path.proofs.carried.next_all.Goals as goal

pub loop-i-preserved : goal.loop-i-preserved
loop-i-preserved g c =
    let next = memory_of (g.M.ColumnMemory.seen c.args.rule.now) g.M.ColumnMemory.beginning (tokens_of c.args.row.now) c.args.memories.now in
    let made = rw c.loop-i.invariant.1 at c.in_ok-next_one.ensures.next in
    let more = map_more next c.loop-i.next.items c.args.found.now c.loop-i.i c.get.result c.get.ensures in (
      rw (c.in_ok-push.ensures.items, made) (more ∙ c.loop-i.invariant.0),
      c.next_one.ensures.kept ∙ c.loop-i.invariant.1,
    )
