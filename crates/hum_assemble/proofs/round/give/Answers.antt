use Rattle.std.proofs.lemmas.Bool.Decides.{nat_tests}
use Rattle.std.proofs.Common.{true, arith}
use Rattle.hum_assemble.proofs.Steps.{giving, given_fits}
use Rattle.hum_assemble.proofs.Taking.{all_lawful}
use Rattle.hum_assemble.specs.Round.{any_due}
use Rattle.hum_assemble.proofs.round.give.Goals as goal

pub give_at-requires-clause-giving : goal.give_at-requires-clause-giving
give_at-requires-clause-giving c =
    grind (arith, nat_tests, giving c.args.sources.now c.requires.ahead.0 c.args.p c.requires.ahead.1)

pub returns-clause-lawful : goal.returns-clause-lawful
returns-clause-lawful c =
    rw c.in_ok-row.ensures.sources
    (all_lawful true c.args.going c.args.p c.args.sources.now c.requires.lawful)

pub give_at-requires-clause-fits : goal.give_at-requires-clause-fits
give_at-requires-clause-fits c =
    rw c.requires.going
    (given_fits (any_due c.args.sources.now) c.args.sources.now c.requires.ahead.0 c.args.p c.requires.ahead.1)
