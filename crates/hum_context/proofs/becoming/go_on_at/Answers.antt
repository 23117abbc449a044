use Rattle.std.proofs.Common.{◌≡◌, ◌+◌, arith}
use Rattle.hum_context.proofs.becoming.go_on_at.Goals as goal

pub returns : goal.returns
returns c o path rows want none knows h =
    let zero : c.args.gone + 0 ≡ c.args.gone = omega arith in
    rw zero at (c.go_on.ensures.halts o path 0 rows c.args.j want knows (rw zero (c.begin_at.ensures.stands o path rows none h)))
