use Rattle.std.proofs.Common.{◌≡◌, ◌-◌, ◌≤◌, ◌<◌, List, drop, false, get_or, length}
use Rattle.hum_score.specs.Row.{Row}
use Rattle.hum_score.specs.Spines.{Path}
use Rattle.hum_context.specs.declared.heard.Heard.TheVariants.{Passed}
use Rattle.hum_context.specs.declared.queued.Queued.{Queued}
use Rattle.hum_context.specs.Context.{Choice}
use Rattle.hum_context.specs.Leads.{Leads, is_found}
use Rattle.hum_context.specs.Queue.{Knows}
use Rattle.hum_context.proofs.skipping.skip.Given as goal

abbrev pub invariant-loop-here : goal.invariant-loop-here
invariant-loop-here l = record {
  below : l.fn.from.n < l.here.n;
  within : l.here.n ≤ length l.held.items;
  leads : (o : Choice) (path : Path) (rows : List Row) (kept : Queued)
      → kept ≡ get_or l.held.items l.fn.from.n kept
      → is_found l.sought (get_or kept.heard.items l.fn.from.c Passed) ≡ false
      → Knows o path (drop l.fn.from.n l.held.items) rows
      → Leads o l.sought path rows l.fn.from.c (l.here.n - l.fn.from.n) l.here.c;
}

abbrev pub decreases-loop-here : goal.decreases-loop-here
decreases-loop-here l = length l.held.items - l.here.n
