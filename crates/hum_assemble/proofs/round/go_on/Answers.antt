use Rattle.std.proofs.Common.{arith}
use Rattle.std.proofs.lemmas.Grind.{common_steps}
use Rattle.hum_assemble.proofs.Pushing.{all_gone, none_taken}
use Rattle.hum_assemble.proofs.round.go_on.Goals as goal

pub returns-clause-moved : goal.returns-clause-moved
returns-clause-moved c =
    let over = c.loop-source-test.false in
    let size = c.loop-source.auto.sources in
    all_gone c.loop-source.free c.args.going c.args.p c.loop-source.source-index c.loop-source.sources _ (omega (arith, over, size))
    c.loop-source.invariant.moved

pub returns-clause-row : goal.returns-clause-row
returns-clause-row c =
    let over = c.loop-source-test.false in
    let size = c.loop-source.auto.sources in
    none_taken c.loop-source.given c.loop-source.free c.args.going c.args.p c.loop-source.source-index c.loop-source.sources _
    (omega (arith, over, size)) c.loop-source.invariant.taken

pub loop-source-preserved : goal.loop-source-preserved
loop-source-preserved c = grind (arith, common_steps)
