use Rattle.std.proofs.Common.{◌≤◌}
use Rattle.hum_turns.specs.Counts.{total}
use Rattle.hum_engine.specs.Scene.{Scene, Stands, room_of}
use Rattle.hum_engine.proofs.web.Web.room.Given as goal

abbrev pub invariant-loop-k : goal.invariant-loop-k
invariant-loop-k g l =
    (s : Scene) → Stands g.S.Stage l.self s → l.room ≤ total (room_of s s.links) l.k
