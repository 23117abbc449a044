use Rattle.std.proofs.lemmas.Result.{IfOk-weaker}
use Rattle.hum_laws.proofs.Rids.{in_turn_same}
use Rattle.hum_laws.proofs.rid.rid_by_letters.Goals as goal

pub returns-clause-in_turn : goal.returns-clause-in_turn
returns-clause-in_turn c = IfOk-weaker c.piped_and_alone.result _ _ (λ both h. h.0) c.piped_and_alone.ensures.given

pub returns-clause-at_once : goal.returns-clause-at_once
returns-clause-at_once c =
    rw (← c.joint-all.ensures) (IfOk-weaker c.piped_and_alone.result _ _ (λ both h. h.1) c.piped_and_alone.ensures.given)

pub returns-clause-same : goal.returns-clause-same
returns-clause-same c =
    IfOk-weaker c.piped_and_alone.result _ _
    (λ both h. in_turn_same c.args.some c.args.more c.args.score.records.now both.0 both.1 c.args.score.few h.0 (rw (← c.joint-all.ensures) h.1))
    c.piped_and_alone.ensures.given
