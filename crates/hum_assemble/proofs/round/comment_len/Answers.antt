use Rattle.std.proofs.lemmas.Bool.Decides.{nat_tests}
use Rattle.std.proofs.Common.{arith}
use Rattle.hum_assemble.proofs.Firsts.{comment_here, comment_behind, no_comment}
use Rattle.hum_assemble.proofs.round.comment_len.Goals as goal

pub returns-then-takes : goal.returns-then-takes
returns-then-takes c =
    comment_here c.args.going c.args.p c.args.sources.now c.loop-rest.rest.now c.source-item.result _ c.takes.result _
    c.in-len1-up.len_at_least c.source-item.is c.takes.ensures c.if-takes.true c.text_len.ensures c.loop-rest.invariant

pub loop-rest-preserved : goal.loop-rest-preserved
loop-rest-preserved c =
    comment_behind c.args.going c.args.p c.args.sources.now c.loop-rest.rest.now c.source-item.result _ c.takes.result
    c.in-len1-up.len_at_least c.source-item.is c.takes.ensures c.if-takes.false c.loop-rest.invariant

pub returns : goal.returns
returns = grind (arith, nat_tests, no_comment)
