use Rattle.std.proofs.lemmas.Result.{IfOk-weaker}
use Rattle.hum_laws.proofs.Fields.{all_fields_stay}
use Rattle.hum_laws.proofs.columns.all_fields.Goals as goal

pub returns-clause-extracted : goal.returns-clause-extracted
returns-clause-extracted c = rw (c.in_ok-push.ensures.items, c.new-ranges.ensures.items) at c.alone.ensures

pub returns-clause-same : goal.returns-clause-same
returns-clause-same c =
    IfOk-weaker c.alone.result _ _
    (λ given h. all_fields_stay c.args.score.records.now given (rw (c.in_ok-push.ensures.items, c.new-ranges.ensures.items) at h) c.args.score.closed.0)
    c.alone.ensures
