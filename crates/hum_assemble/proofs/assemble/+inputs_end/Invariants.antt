use Rattle.std.proofs.Common.{length}
use Rattle.hum_assemble.proofs.assemble.+inputs_end.Given as goal

abbrev pub decreases-inputs_end : goal.decreases-inputs_end
decreases-inputs_end l = length l.sources.now
