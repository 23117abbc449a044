use Rattle.hum_context.proofs.Passing.{new_enough, new_by}
use Rattle.hum_context.proofs.becoming.becoming_by.Goals as goal

pub returns-then-walk : goal.returns-then-walk
returns-then-walk c o path first rows j none h token a b =
    new_enough o path first rows j c.args.walk token none h a b c.if-walk.true

pub returns-then-walk-2 : goal.returns-then-walk-2
returns-then-walk-2 c o path first rows j none h token a b =
    rw (c.if-walk.false, c.if-walk-2.true) at (new_by o path first rows j c.args.walk token h a b)

pub returns : goal.returns
returns c o path first rows j none h token a b =
    rw (c.if-walk.false, c.if-walk-2.false) at (new_by o path first rows j c.args.walk token h a b)
