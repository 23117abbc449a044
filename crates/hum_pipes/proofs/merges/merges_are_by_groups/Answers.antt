use Rattle.hum_pipes.proofs.Grouping.{merges}
use Rattle.hum_pipes.proofs.merges.merges_are_by_groups.Goals as goal

pub returns : goal.returns
returns c = merges
