use Rattle.std.proofs.lemmas.Result.{IfOk-weaker}
use Rattle.hum_laws.proofs.Transposed.{back_again, moves_alone}
use Rattle.hum_laws.proofs.trans.there_and_back.Goals as goal

pub returns-clause-there : goal.returns-clause-there
returns-clause-there c = IfOk-weaker c.again.result _ _ (λ both h. h.0) c.again.ensures.given

pub returns-clause-back : goal.returns-clause-back
returns-clause-back c =
    rw (c.opposite-back.ensures.steps, c.opposite-back.ensures.semitones) at (IfOk-weaker c.again.result _ _ (λ both h. h.1) c.again.ensures.given)

pub returns-clause-same : goal.returns-clause-same
returns-clause-same c =
    IfOk-weaker c.again.result _ _
    (λ both h. back_again c.args.way.steps c.args.way.semitones c.args.score.records.now both.1
    (rw (c.opposite-back.ensures.steps, c.opposite-back.ensures.semitones) at h.1) c.again.ensures.keeps c.args.score.closed.0)
    c.again.ensures.given

pub returns-clause-there_is : goal.returns-clause-there_is
returns-clause-there_is c =
    IfOk-weaker c.again.result _ _ (λ both h. moves_alone c.args.way.steps c.args.way.semitones c.args.score.records.now both.0 h.0) c.again.ensures.given
