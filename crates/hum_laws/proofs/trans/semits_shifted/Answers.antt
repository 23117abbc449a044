use Rattle.std.proofs.lemmas.Result.{IfOk-weaker}
use Rattle.hum_laws.proofs.Transposed.{semits_moved, semits_alone}
use Rattle.hum_laws.proofs.trans.semits_shifted.Goals as goal

pub returns-clause-moved : goal.returns-clause-moved
returns-clause-moved c = IfOk-weaker c.piped_and_alone.result _ _ (λ both h. h.0) c.piped_and_alone.ensures.given

pub returns-clause-still : goal.returns-clause-still
returns-clause-still c = IfOk-weaker c.piped_and_alone.result _ _ (λ both h. h.1) c.piped_and_alone.ensures.given

pub returns-clause-moved_is : goal.returns-clause-moved_is
returns-clause-moved_is c =
    IfOk-weaker c.piped_and_alone.result _ _
    (λ both h. semits_moved c.args.way.steps c.args.way.semitones c.args.options c.args.score.records.now both.0 h.0
    c.piped_and_alone.ensures.keeps c.args.score.closed.0)
    c.piped_and_alone.ensures.given

pub returns-clause-still_is : goal.returns-clause-still_is
returns-clause-still_is c =
    IfOk-weaker c.piped_and_alone.result _ _ (λ both h. semits_alone c.args.options c.args.score.records.now both.1 h.1) c.piped_and_alone.ensures.given
