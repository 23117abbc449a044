use Rattle.std.proofs.Common.{◌≡◌, ◌≤◌, ◌*◌, ◌-◌, List, [], None, false, drop, length}
use Rattle.hum_score.specs.Row.{Row}
use Rattle.hum_score.specs.Spines.{Path}
use Rattle.hum_context.specs.Context.{Choice, taken}
use Rattle.hum_context.specs.Heard.{wanted_of}
use Rattle.hum_context.specs.Queue.{Knows}
use Rattle.hum_context.specs.Walking.{bytes_of}
use Rattle.hum_context.proofs.Gathering.{Gathers}
use Rattle.hum_context.proofs.measuring.measure.Given as goal

abbrev pub invariant-loop-here : goal.invariant-loop-here
invariant-loop-here l = record {
  over : l.fn.k ≤ l.here.n;
  within : l.here.n ≤ length l.held.items;
  few : l.count ≤ l.here.n;
  short : l.size ≤ 1048577 * l.here.n;
  counts : (o : Choice) (path : Path) (rows : List Row) → l.wanted ≡ wanted_of o.extent
      → taken o.extent [] ≡ None → Knows o path (drop l.fn.k l.held.items) rows
      → Gathers o path rows l.fn.j (l.here.n - l.fn.k) l.here.c l.count (λ ts. l.size ≡ bytes_of ts) false;
}

abbrev pub decreases-loop-here : goal.decreases-loop-here
decreases-loop-here l = length l.held.items - l.here.n
