use Rattle.std.proofs.Common.{◌≡◌, ◌≤◌, List, [], None, length}
use Rattle.hum_score.specs.Row.{Row}
use Rattle.hum_score.specs.Score.{path_after}
use Rattle.hum_context.specs.Context.{Choice, taken}
use Rattle.hum_context.specs.Heard.{wanted_of}
use Rattle.hum_context.specs.Queue.{Knows}
use Rattle.hum_context.proofs.Lasts.{Sound}
use Rattle.hum_context.proofs.lasting.lasting.Given as goal

abbrev pub invariant-loop-k : goal.invariant-loop-k
invariant-loop-k l = record {
  within : l.k ≤ length l.held.items;
  sound : (o : Choice) (past rows : List Row) → l.wanted ≡ wanted_of o.extent
      → taken o.extent [] ≡ None → Knows o (path_after past) l.held.items rows
      → Sound o past rows l.k;
}
