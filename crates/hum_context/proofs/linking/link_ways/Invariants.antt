use Rattle.std.proofs.Common.{◌≡◌, ◌-◌, List, length}
use Rattle.hum_score.specs.Row.{Row}
use Rattle.hum_score.specs.Spines.{Path}
use Rattle.hum_context.specs.Context.{Choice}
use Rattle.hum_context.specs.Queue.{FirstIsData, Knows}
use Rattle.hum_context.proofs.linking.link_ways.Given as goal

abbrev pub invariant-loop-here : goal.invariant-loop-here
invariant-loop-here l = record {
  size : length l.held.items ≡ length l.fn.held.items;
  valued : FirstIsData l.fn.held.items → FirstIsData l.held.items;
  knows : (o : Choice) (path : Path) (rows : List Row) → Knows o path l.fn.held.items rows
      → Knows o path l.held.items rows;
}

abbrev pub decreases-loop-here : goal.decreases-loop-here
decreases-loop-here l = length l.held.items - l.here.n
