use Rattle.std.proofs.Common.{length}
use Rattle.hum_assemble.proofs.assemble.+count.Given as goal

abbrev pub decreases-count : goal.decreases-count
decreases-count l = length l.sources.now
