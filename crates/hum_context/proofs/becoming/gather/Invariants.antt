use Rattle.std.proofs.Common.{◌≡◌, ◌≤◌, ◌-◌, List, [], None, false, length}
use Rattle.std.specs.List.{join_with_byte}
use Rattle.hum_score.specs.Row.{Row}
use Rattle.hum_score.specs.Spines.{Path}
use Rattle.hum_context.specs.Context.{Choice, taken}
use Rattle.hum_context.specs.Heard.{wanted_of}
use Rattle.hum_context.specs.Queue.{Knows}
use Rattle.hum_context.proofs.Gathering.{Gathers}
use Rattle.hum_context.proofs.becoming.gather.Given as goal

abbrev pub invariant-loop-here : goal.invariant-loop-here
invariant-loop-here l = record {
  few : l.count ≤ l.here.n;
  text : (o : Choice) (path : Path) (rows : List Row) → l.wanted ≡ wanted_of o.extent
      → taken o.extent [] ≡ None → Knows o path l.held.items rows
      → Gathers o path rows l.fn.j l.here.n l.here.c l.count (λ ts. l.text ≡ join_with_byte 32 ts) false;
}

abbrev pub decreases-loop-here : goal.decreases-loop-here
decreases-loop-here l = length l.held.items - l.here.n
