use Rattle.std.proofs.Common.{◌∙◌, sym}
use Rattle.hum_many.proofs.Coming.{told-well}
use Rattle.hum_many.proofs.answers.tell.Goals as goal

pub returns-then-status-eq0-clause-answered : goal.returns-then-status-eq0-clause-answered
returns-then-status-eq0-clause-answered g c =
    rw (told-well c.args.outcome (sym c.status.ensures ∙ c.if-status-eq0.true)) c.answer.ensures.answered
