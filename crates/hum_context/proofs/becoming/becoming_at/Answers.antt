use Rattle.hum_context.proofs.becoming.becoming_at.Goals as goal

pub returns : goal.returns
returns c o path rows want none knows h token a b =
    c.becoming_by.ensures o path _ rows c.args.j none
    (c.walk_at.ensures o path rows want none knows h) token a b
