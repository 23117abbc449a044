use Rattle.std.proofs.Common.{length}
use Rattle.hum_assemble.proofs.round.+are_more_spines.Given as goal

abbrev pub decreases-are_more_spines : goal.decreases-are_more_spines
decreases-are_more_spines l = length l.sources.now
