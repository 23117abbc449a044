use Rattle.std.proofs.Common.{◌∙◌, sym}
use Rattle.hum_stage.proofs.Lags.{lags_rests, lags_gives, due_none, due_some}
use Rattle.hum_stage.proofs.lagging.LaggingStage.state.Goals as goal

pub returns-then-is_some : goal.returns-then-is_some
returns-then-is_some g c t h =
    let due = due_some c.args.self.now.due
    (sym c.is_some.ensures ∙ c.if-is_some.true) in
    sym (lags_gives _ _ _ _ _ t due.0 h due.1)

pub returns : goal.returns
returns g c t h =
    let none = due_none c.args.self.now.due
    (sym c.is_some.ensures ∙ c.if-is_some.false) in
    c.resting.ensures ∙ sym (lags_rests _ _ _ _ _ t h none)
