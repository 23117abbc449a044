use Rattle.std.proofs.lemmas.Result.{IfOk-weaker}
use Rattle.hum_laws.proofs.Telling.{makes_scores, told_once}
use Rattle.hum_laws.proofs.notes.told_once.Goals as goal

pub again-requires : goal.again-requires
again-requires c = record { scores = makes_scores c.args.first c.requires.names }

pub returns-clause-once : goal.returns-clause-once
returns-clause-once c = IfOk-weaker c.again.result _ _ (λ both h. h.0) c.again.ensures.given

pub returns-clause-twice : goal.returns-clause-twice
returns-clause-twice c = IfOk-weaker c.again.result _ _ (λ both h. h.1) c.again.ensures.given

pub returns-clause-same : goal.returns-clause-same
returns-clause-same c =
    IfOk-weaker c.again.result _ _
    (λ both h. told_once c.args.first c.args.second c.args.score.records.now both.0 both.1 c.requires.names c.requires.tells h.0 h.1
    c.again.ensures.keeps c.args.score.closed.0)
    c.again.ensures.given
