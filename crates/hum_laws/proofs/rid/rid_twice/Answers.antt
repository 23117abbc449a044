use Rattle.std.proofs.lemmas.Result.{IfOk-weaker}
use Rattle.hum_laws.proofs.Rids.{twice_same}
use Rattle.hum_laws.proofs.rid.rid_twice.Goals as goal

pub returns-clause-once : goal.returns-clause-once
returns-clause-once c = IfOk-weaker c.again.result _ _ (λ both h. h.0) c.again.ensures.given

pub returns-clause-twice : goal.returns-clause-twice
returns-clause-twice c = IfOk-weaker c.again.result _ _ (λ both h. h.1) c.again.ensures.given

pub returns-clause-same : goal.returns-clause-same
returns-clause-same c =
    IfOk-weaker c.again.result _ _
    (λ both h. twice_same c.args.options c.args.score.records.now both.0 both.1 c.args.score.few h.0 h.1) c.again.ensures.given
