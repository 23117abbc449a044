use Rattle.std.proofs.lemmas.Result.{IfOk-weaker}
use Rattle.hum_laws.proofs.Filling.{filled_twice}
use Rattle.hum_laws.proofs.fill.ditto_twice.Goals as goal

pub returns-clause-once : goal.returns-clause-once
returns-clause-once c = IfOk-weaker c.again.result _ _ (λ both h. h.0) c.again.ensures.given

pub returns-clause-twice : goal.returns-clause-twice
returns-clause-twice c = rw c.in_ok-options_too.ensures at (IfOk-weaker c.again.result _ _ (λ both h. h.1) c.again.ensures.given)

pub returns-clause-same : goal.returns-clause-same
returns-clause-same c =
    IfOk-weaker c.again.result _ _
    (λ both h. filled_twice c.args.options c.args.score.records.now both.0 both.1 h.0 (rw c.in_ok-options_too.ensures at h.1) c.again.ensures.keeps c.args.score.closed.0)
    c.again.ensures.given
