use Rattle.std.proofs.Common.{length}
use Rattle.hum_assemble.proofs.round.+are_more_bytes.Given as goal

abbrev pub decreases-are_more_bytes : goal.decreases-are_more_bytes
decreases-are_more_bytes l = length l.sources.now
