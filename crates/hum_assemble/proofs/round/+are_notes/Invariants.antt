use Rattle.std.proofs.Common.{length}
use Rattle.hum_assemble.proofs.round.+are_notes.Given as goal

abbrev pub decreases-are_notes : goal.decreases-are_notes
decreases-are_notes l = length l.sources.now
