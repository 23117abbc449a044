use Rattle.std.proofs.Common.{◌≡◌, ℕ, List, length}
use Rattle.hum_score.specs.Row.{Row}
use Rattle.hum_score.specs.Spines.{Path}
use Rattle.hum_context.specs.Context.{Choice}
use Rattle.hum_context.specs.Queue.{FirstIsData, Knows}
use Rattle.hum_context.specs.Walking.{AllStand}
use Rattle.hum_context.proofs.linking.link_all.Given as goal

abbrev pub invariant-loop-j : goal.invariant-loop-j
invariant-loop-j l = record {
  wide : length l.walks.items ≡ length l.fn.walks.items;
  size : length l.held.items ≡ length l.fn.held.items;
  valued : FirstIsData l.fn.held.items → FirstIsData l.held.items;
  knows : (o : Choice) (path : Path) (rows : List Row) → Knows o path l.fn.held.items rows
      → Knows o path l.held.items rows;
  stand : (o : Choice) (path : Path) (first : ℕ) (rows : List Row)
      → AllStand o path first rows l.fn.walks.items → AllStand o path first rows l.walks.items;
}
