use Rattle.std.proofs.lemmas.Result.{IfOk-weaker}
use Rattle.std.proofs.Common.{◌+ℤ◌}
use Rattle.hum_laws.proofs.Transposed.{adds_up, moves_alone}
use Rattle.hum_laws.proofs.trans.transpositions_add_up.Goals as goal

pub returns-clause-in_turn : goal.returns-clause-in_turn
returns-clause-in_turn c = IfOk-weaker c.piped_and_alone.result _ _ (λ both h. h.0) c.piped_and_alone.ensures.given

pub returns-clause-at_once : goal.returns-clause-at_once
returns-clause-at_once c =
    rw (c.sum-all.ensures.steps, c.sum-all.ensures.semitones) at
    (IfOk-weaker c.piped_and_alone.result _ _ (λ both h. h.1) c.piped_and_alone.ensures.given)

pub returns-clause-in_turn_is : goal.returns-clause-in_turn_is
returns-clause-in_turn_is c =
    IfOk-weaker c.piped_and_alone.result _ _
    (λ both h. adds_up c.args.some.steps c.args.some.semitones c.args.more.steps c.args.more.semitones c.args.score.records.now both.0 h.0
    c.piped_and_alone.ensures.keeps c.args.score.closed.0)
    c.piped_and_alone.ensures.given

pub returns-clause-at_once_is : goal.returns-clause-at_once_is
returns-clause-at_once_is c =
    IfOk-weaker c.piped_and_alone.result _ _
    (λ both h. moves_alone (c.args.some.steps +ℤ c.args.more.steps) (c.args.some.semitones +ℤ c.args.more.semitones) c.args.score.records.now both.1
    (rw (c.sum-all.ensures.steps, c.sum-all.ensures.semitones) at h.1))
    c.piped_and_alone.ensures.given
