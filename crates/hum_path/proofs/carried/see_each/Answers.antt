use Rattle.std.proofs.Common.{◌∙◌, inl, inr, arith}
use Rattle.hum_score.specs.Row.{tokens_of}
use Rattle.hum_path.proofs.Carry.{see_more, seen_all}
use Rattle.hum_path.proofs.carried.see_each.Goals as goal

pub loop-j-preserved : goal.loop-j-preserved
loop-j-preserved g c =
    let see = g.M.ColumnMemory.seen c.args.rule.now in
    let size = c.loop-j.memories.ok.0 in
    let len = c.len.ensures in
    let inside = c.if-j-len.false in
    let width = c.width-j-end.ensures in
    let at = c.loop-j-test.true in
    let saw = rw c.loop-j.invariant.1 at c.in_ok-see_token.ensures.seen in (
      see_more see (tokens_of c.args.row.now) c.loop-j.memories.items c.loop-j.j c.index_mut.result.now
          c.see_token.new.memory (omega (arith, width, at)) (omega (arith, size, len, inside))
          c.index_mut.ensures.value saw ∙ c.loop-j.invariant.0,
      c.see_token.ensures.kept ∙ c.loop-j.invariant.1,
    )

pub returns-then-j-len-clause-seen : goal.returns-then-j-len-clause-seen
returns-then-j-len-clause-seen g c =
    let see = g.M.ColumnMemory.seen c.args.rule.now in
    let size = c.loop-j.memories.ok.0 in
    let len = c.len.ensures in
    let past = c.if-j-len.true in
    seen_all see (tokens_of c.args.row.now) c.loop-j.memories.items _ c.loop-j.j (inl (omega (arith, size, len, past))) c.loop-j.invariant.0

pub returns-clause-seen : goal.returns-clause-seen
returns-clause-seen g c =
    let see = g.M.ColumnMemory.seen c.args.rule.now in
    let width = c.width-j-end.ensures in
    let past = c.loop-j-test.false in
    seen_all see (tokens_of c.args.row.now) c.loop-j.memories.items _ c.loop-j.j (inr (omega (arith, width, past))) c.loop-j.invariant.0
