use Rattle.std.proofs.Common.{◌∙◌, sym, arith}
use Rattle.hum_assemble.proofs.Room.{source_fits}
use Rattle.hum_assemble.proofs.Pushing.{none_left}
use Rattle.hum_assemble.proofs.Taking.{filled}
use Rattle.hum_assemble.proofs.round.give_side_by_side.Goals as goal

pub push_part-requires-clause-taken : goal.push_part-requires-clause-taken
push_part-requires-clause-taken c = (c.loop-source.free, c.args.going, c.takes-taken.ensures)

pub push_part-requires-clause-fits : goal.push_part-requires-clause-fits
push_part-requires-clause-fits c =
    let less = c.loop-source-test.true in
    let size = c.loop-source.auto.sources in
    source_fits c.loop-source.builder.tokens c.loop-source.free c.args.going _ c.args.p c.loop-source.sources _ _
    (omega (arith, less, size)) c.takes-taken.ensures
    (rw c.loop-source.invariant.tokens (rw c.requires.kind at c.requires.fits))

pub finish-requires-clause-filled : goal.finish-requires-clause-filled
finish-requires-clause-filled c = λ e.
    let over = c.loop-source-test.false in
    let size = c.loop-source.auto.sources in
    filled c.args.going c.args.p c.args.sources.now c.args.kind c.requires.kind c.requires.giving c.requires.lawful
    (sym c.loop-source.invariant.tokens
    ∙ none_left c.loop-source.free c.args.going c.args.p c.loop-source.source-index c.loop-source.sources _
    (omega (arith, over, size)) e)
