use Rattle.std.proofs.Common.{◌∙◌, sym, ap, Some, arith}
use Rattle.hum_context.specs.declared.walk.Walk.{Walk}
use Rattle.hum_context.proofs.Standing.{get_there}
use Rattle.hum_context.proofs.Told.{some_both, told_is}
use Rattle.hum_context.proofs.becoming.told_at.Goals as goal

pub returns-then-walk-clause-joined : goal.returns-then-walk-clause-joined
returns-then-walk-clause-joined c =
    let within = c.if-j-walks.false in
    let walk = c.index-walks-j.result in
    some_both c.token.result (λ token lawful joined o path rows want stand tokens are.
    told_is o path c.args.at rows c.args.j c.in-Some._number walk token.now tokens (sym c.in-Some.is ∙ want)
    (stand c.args.j walk (get_there c.args.walks.now c.args.j walk (omega (arith, within))
    ∙ ap (λ (w : Walk). Some w) (sym c.index-walks-j.is)) c.if-at-walk.true)
    c.if-walk.true lawful.filled joined are) c.token.ensures.lawful c.token.ensures.joined
