use Rattle.hum_path.proofs.Carry.{follows_on, sees_on, on_ok}
use Rattle.hum_path.proofs.carried.go_on.Goals as goal

pub returns-then-moves_some-clause-memories : goal.returns-then-moves_some-clause-memories
returns-then-moves_some-clause-memories g c past h told =
    let next = rw c.deref.ensures.value at c.in_ok-memories.ensures.next in
    follows_on (g.M.ColumnMemory.seen c.args.rule.now) g.M.ColumnMemory.beginning c.args.row.now past
    c.args.memories.now.items c.in_ok-memories.field-0.items c.args.found.now
    (c.moves_some.ensures.yes c.if-moves_some.true) next h told

pub returns-clause-memories : goal.returns-clause-memories
returns-clause-memories g c =
    let size = c.args.memories.now.ok.0 in
    let len = c.len.ensures in
    on_ok c.see_each.result (λ is past h told.
    sees_on (g.M.ColumnMemory.seen c.args.rule.now) g.M.ColumnMemory.beginning c.args.row.now past
    c.args.memories.now.items c.see_each.new.memories.items c.args.found.now
    c.requires (λ k. rw (len, size) at c.moves_some.ensures.no c.if-moves_some.false k) is h told) c.see_each.ensures.seen
