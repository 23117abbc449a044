use Rattle.std.proofs.Common.{◌≤◌, List, length}
use Rattle.hum_score.specs.Row.{Row}
use Rattle.hum_score.specs.Spines.{Path}
use Rattle.hum_context.specs.Context.{Choice}
use Rattle.hum_context.specs.Walking.{AllStand}
use Rattle.hum_context.proofs.becoming.widen.Given as goal

abbrev pub invariant-loop-j : goal.invariant-loop-j
invariant-loop-j l = record {
  wide : l.j ≤ length l.walks.items;
  stand : (o : Choice) (path : Path) (rows : List Row)
      → AllStand o path l.gone rows l.fn.walks.items → AllStand o path l.gone rows l.walks.items;
}
