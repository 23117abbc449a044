use Rattle.std.proofs.Common.{length}
use Rattle.hum_assemble.proofs.round.+earliest.Given as goal

abbrev pub decreases-earliest : goal.decreases-earliest
decreases-earliest l = length l.sources.now
