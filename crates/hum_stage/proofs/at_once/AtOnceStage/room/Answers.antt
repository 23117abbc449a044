use Rattle.hum_stage.proofs.Waiting.{standing_room}
use Rattle.hum_stage.proofs.at_once.AtOnceStage.room.Goals as goal

pub returns : goal.returns
returns g c = λ t h. standing_room _ _ _ _ t _ h c.room.ensures
