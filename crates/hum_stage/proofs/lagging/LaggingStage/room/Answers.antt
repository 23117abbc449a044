use Rattle.std.proofs.Common.{◌∙◌, sym}
use Rattle.hum_stage.proofs.Waiting.{lags_room}
use Rattle.hum_stage.proofs.lagging.LaggingStage.room.Goals as goal

pub returns : goal.returns
returns g c = λ t h. lags_room _ _ _ _ _ t _ _ _ h (sym c.is_some.ensures ∙ c.if-is_some.false)
    c.room.ensures c.room-2.ensures c.saturating_add.ensures
