use Rattle.std.proofs.Common.{arith, refl}
use Rattle.hum_context.proofs.Kept.{knows_put}
use Rattle.hum_context.proofs.linking.put_way.Goals as goal

pub returns-clause-knows : goal.returns-clause-knows
returns-clause-knows c o path rows leads knows =
    let w = c.requires.within in
    knows_put o c.args.sought path c.args.held.now.items rows c.args.from.n c.args.from.c c.args.to.n
    c.args.to.c c.index_mut.result.now c.put_link.new.self _ leads knows (omega (arith, w))
    c.index_mut.ensures.value c.in_ok-put_link.ensures.kept c.in_ok-put_link.ensures.put refl refl
