use Rattle.std.proofs.Common.{arith}
use Rattle.hum_engine.specs.Scene.{moved}
use Rattle.hum_engine.proofs.net.Net.linked.Goals as goal

pub returns : goal.returns
returns g c start s now h = record {
  stage = λ going less. c.linked.ensures.stage (moved s now.links) (record { stand = h.going going; less = less });
  sink = λ going past. c.linked.ensures.none (omega (arith, past, (h.going going).as_many));
}
