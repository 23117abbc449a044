use Rattle.std.proofs.lemmas.Result.{IfOk-weaker}
use Rattle.hum_score.specs.Texts.{texts}
use Rattle.hum_laws.proofs.Fields.{names_twice}
use Rattle.hum_laws.proofs.columns.names_twice.Goals as goal

pub returns-clause-once : goal.returns-clause-once
returns-clause-once c = IfOk-weaker c.again.result _ _ (λ both h. h.0) c.again.ensures.given

pub returns-clause-twice : goal.returns-clause-twice
returns-clause-twice c = rw c.in_ok-twice.ensures at (IfOk-weaker c.again.result _ _ (λ both h. h.1) c.again.ensures.given)

pub returns-clause-same : goal.returns-clause-same
returns-clause-same c =
    IfOk-weaker c.again.result _ _
    (λ both h. names_twice (texts c.args.names.items) c.args.score.records.now both.0 both.1 h.0 (rw c.in_ok-twice.ensures at h.1)
    c.again.ensures.keeps c.args.score.closed.0)
    c.again.ensures.given
