use Rattle.std.proofs.Common.{length}
use Rattle.hum_assemble.proofs.assemble.+room_of.Given as goal

abbrev pub decreases-room_of : goal.decreases-room_of
decreases-room_of l = length l.sources.now
