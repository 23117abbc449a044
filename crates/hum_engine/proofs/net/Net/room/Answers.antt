use Rattle.hum_engine.specs.Scene.{moved}
use Rattle.hum_engine.proofs.net.Net.room.Goals as goal

pub returns : goal.returns
returns g c start s now h none = c.room.ensures (moved s now.links) (h.going none)
