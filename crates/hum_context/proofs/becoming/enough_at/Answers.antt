use Rattle.std.proofs.Common.{◌∙◌, sym, ap, Some, arith}
use Rattle.hum_context.specs.declared.walk.Walk.{Walk}
use Rattle.hum_context.proofs.Standing.{get_there}
use Rattle.hum_context.proofs.Passing.{enough_becomes}
use Rattle.hum_context.proofs.becoming.enough_at.Goals as goal

pub returns-then-walk : goal.returns-then-walk
returns-then-walk c o path rows none h becoming is token a b =
    let within = c.if-j-walks.false in
    enough_becomes o path c.args.at rows c.args.j c.index-walks-j.result becoming token none
    (h c.args.j c.index-walks-j.result (get_there c.args.walks.now c.args.j
    c.index-walks-j.result (omega (arith, within)) ∙ ap (λ (w : Walk). Some w) (sym c.index-walks-j.is))
    c.if-at-walk.true) c.if-walk.true is a b
