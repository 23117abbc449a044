use Rattle.std.proofs.Common.{ℕ}
use Rattle.hum_engine.specs.Scene.{Scene, IsNetPlan, IsBegun}
use Rattle.hum_engine.proofs.Noting.{AreNoted}
use Rattle.hum_engine.proofs.takers.takers_of.Given as goal

abbrev pub invariant-loop-k : goal.invariant-loop-k
invariant-loop-k g l =
    (size : ℕ) (s : Scene) → IsNetPlan s.count s.kinds s.size
    → IsBegun g.S.Stage size l.nodes.items s → AreNoted l.k s l.takers.items
