use Rattle.std.proofs.Common.{◌∙◌, ◌+◌, ap, arith, length, take}
use Rattle.hum_context.proofs.Told.{behind_front, pasted}
use Rattle.hum_context.proofs.saying.put_behind.Goals as goal

pub returns-clause-text : goal.returns-clause-text
returns-clause-text c =
    let token = c.args.token.now in
    let len = c.args.len in
    ap (take (len + 1 + length token)) c.put_token.ensures.text
    ∙ pasted c.args.text.now token len c.requires

pub returns-clause-behind : goal.returns-clause-behind
unfolding returns-clause-text
returns-clause-behind c begin order =
    let size = c.requires in
    behind_front c.args.text.now _ c.args.token.now begin c.args.len order (omega (arith, size))
    (returns-clause-text c)
