use Rattle.std.proofs.Common.{arith}
use Rattle.hum_nodes.proofs.Standing.{ahead_room}
use Rattle.hum_nodes.proofs.node.Node.room.Goals as goal

pub returns-in-Some : goal.returns-in-Some
returns-in-Some g c rest t h = omega (arith, c.room.ensures.most, ahead_room c.in-Command.is c.in-Some.is h)
