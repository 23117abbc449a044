use Rattle.std.proofs.Common.{length}
use Rattle.hum_assemble.proofs.round.+are_few_parts.Given as goal

abbrev pub decreases-are_few_parts : goal.decreases-are_few_parts
decreases-are_few_parts l = length l.sources.now
