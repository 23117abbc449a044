use Rattle.hum_stage.specs.Lawful.{looking_within, looking_decides}
use Rattle.hum_stage.proofs.Lags.{new_lags}
use Rattle.hum_stage.proofs.lagging.Lagging.new.Goals as goal
use Rattle.hum_stage.specs.declared.TheConstants.{MOST_WAITING}

pub returns-clause-stands : goal.returns-clause-stands
returns-clause-stands g c = rw (c.command.ensures, c.new.ensures.items)
    (new_lags MOST_WAITING (g.C.LooksAhead.follows c.begin.result _) c.args.stage _
    (g.C.LooksAhead.look c.args.options) c.begin.ensures.steady c.begin.ensures.follows)

pub returns-clause-keeps : goal.returns-clause-keeps
returns-clause-keeps g c = c.begin.ensures.keeps

pub returns-clause-within : goal.returns-clause-within
returns-clause-within g c =
    looking_within MOST_WAITING c.args.stage g.C.LooksAhead.command (g.C.LooksAhead.look c.args.options) c.begin.ensures.steady

pub returns-clause-decides : goal.returns-clause-decides
returns-clause-decides g c = looking_decides MOST_WAITING (g.C.LooksAhead.look c.args.options) c.begin.ensures.steady
