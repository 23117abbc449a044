use Rattle.std.proofs.Common.{◌∙◌, ap, map}
use Rattle.hum_plan.proofs.Entries.{insert_seen, seen_entry}
use Rattle.hum_plan.proofs.branches.Branches.put.Goals as goal

pub returns : goal.returns
returns c = rw (← c.self.view_is)
    (ap (λ es. map seen_entry es) c.in_ok-insert.ensures.entries
    ∙ insert_seen c.self.inside.index.entries c.args.name c.args.branch)
