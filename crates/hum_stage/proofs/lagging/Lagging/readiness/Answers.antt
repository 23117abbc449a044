use Rattle.std.proofs.Common.{◌∙◌, sym, ap}
use Rattle.hum_stage.specs.Meaning.{readiness_by, resting_state}
use Rattle.hum_stage.proofs.Lags.{lags_rests, lags_gives, due_none, due_some}
use Rattle.hum_stage.proofs.lagging.Lagging.readiness.Goals as goal

pub returns-then-is_some : goal.returns-then-is_some
returns-then-is_some g c t h =
    let due = due_some c.args.self.now.due
    (sym c.is_some.ensures ∙ c.if-is_some.true) in
    ap readiness_by (sym (lags_gives _ _ _ _ _ t due.0 h due.1))

pub returns-in-None : goal.returns-in-None
returns-in-None g c t h =
    let none = due_none c.args.self.now.due
    (sym c.is_some.ensures ∙ c.if-is_some.false) in
    sym (ap readiness_by (lags_rests _ _ _ _ _ t h none
    ∙ ap (resting_state c.args.self.now.fault) c.in-None.is))

pub returns-in-Some : goal.returns-in-Some
returns-in-Some g c t h =
    let none = due_none c.args.self.now.due
    (sym c.is_some.ensures ∙ c.if-is_some.false) in
    sym (ap readiness_by (lags_rests _ _ _ _ _ t h none
    ∙ ap (resting_state c.args.self.now.fault) c.in-Some.is))
