use Rattle.std.proofs.Common.{◌∙◌, sym}
use Rattle.hum_assemble.proofs.Taking.{taken_some, taken_made}
use Rattle.hum_assemble.proofs.round.give_alone.Goals as goal

pub unreachable-requires : goal.unreachable-requires
unreachable-requires c =
    taken_some c.args.going c.args.p c.args.sources.now c.requires.giving c.requires.lawful
    (sym c.in_ok-row.ensures.row ∙ c.in_default.is)

pub returns-clause-row : goal.returns-clause-row
returns-clause-row c =
    taken_made c.args.going c.args.p c.args.sources.now c.in-Some.row c.requires.giving
    c.requires.lawful c.requires.alone (sym c.in-Some.is ∙ c.in_ok-row.ensures.row)
