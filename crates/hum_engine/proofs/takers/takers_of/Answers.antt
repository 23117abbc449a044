use Rattle.std.proofs.Common.{◌∙◌, ◌<◌, ◌+◌, length, drop, sym, ap, subst, arith}
use Rattle.std.proofs.lemmas.List.{take_at}
use Rattle.hum_nodes.specs.At.{fresh, set_each}
use Rattle.hum_engine.proofs.Moving.{nth}
use Rattle.hum_engine.proofs.Noting.{AreNoted, one_noted, all_noted}
use Rattle.hum_engine.proofs.takers.takers_of.Goals as goal

pub loop-k-preserved : goal.loop-k-preserved
loop-k-preserved g c size s plan begun =
    let k = c.loop-k.k in
    let takers = c.loop-k.takers in
    let new = c.note_sources.new.takers in
    let less : k < s.count = omega (arith, c.loop-k-test.true, c.len-count.ensures, c.args.nodes.now.ok.0, begun.count) in
    let there = nth c.args.nodes.now.items k c.index.result.now (omega (arith, less, begun.count)) c.index.ensures in
    let noted = c.note_sources.ensures.noted (s.rests k) (fresh (s.kinds k)) (begun.stand k c.index.result.now there) in
    subst (AreNoted (k + 1) s)
    (sym (take_at new (drop (length new) takers.items) takers.len
    (omega (arith, c.note_sources.ensures.len, c.deref_mut.ensures.len))
    ∙ noted ∙ ap (set_each (s.kinds k).stage.sources k) c.deref_mut.ensures.value))
    (one_noted s plan k takers.items less (c.loop-k.invariant size s plan begun))

pub returns : goal.returns
returns g c size s plan begun = all_noted s plan c.loop-k.k c.loop-k.takers.items
    (omega (arith, c.loop-k-test.false, c.len-count.ensures, c.args.nodes.now.ok.0, begun.count))
    (c.loop-k.invariant size s plan begun)
