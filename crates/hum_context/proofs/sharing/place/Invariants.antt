use Rattle.std.proofs.Common.{◌≤◌, ℕ, List, length}
use Rattle.hum_score.specs.Row.{Row}
use Rattle.hum_score.specs.Spines.{Path}
use Rattle.hum_context.specs.Context.{Choice}
use Rattle.hum_context.specs.Walking.{AllStand}
use Rattle.hum_context.proofs.sharing.place.Given as goal

abbrev pub invariant-loop : goal.invariant-loop
invariant-loop l = record {
  wide : l.counter ≤ length l.walks.items;
  stand : (o : Choice) (path : Path) (first : ℕ) (rows : List Row)
      → AllStand o path first rows l.fn.walks.items → AllStand o path first rows l.walks.items;
}
