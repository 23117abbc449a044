use Rattle.std.proofs.Common.{◌∙◌}
use Rattle.hum_plan.proofs.Entries.{unused_seen}
use Rattle.hum_plan.proofs.branches.Branches.first_unused.Goals as goal

pub returns : goal.returns
returns c = rw (← c.self.view_is) (c.first_line_unused.ensures ∙ unused_seen c.self.inside.index.entries)
