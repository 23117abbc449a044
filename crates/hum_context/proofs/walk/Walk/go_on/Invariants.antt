use Rattle.std.proofs.Common.{◌≡◌, ◌+◌, ◌-◌, ◌≤◌, ℕ, List, drop, length}
use Rattle.hum_score.specs.Row.{Row}
use Rattle.hum_score.specs.Spines.{Path}
use Rattle.hum_context.specs.Context.{Choice}
use Rattle.hum_context.specs.Heard.{wanted_of}
use Rattle.hum_context.specs.Queue.{Knows}
use Rattle.hum_context.specs.Walking.{Stands}
use Rattle.hum_context.proofs.walk.Walk.go_on.Given as goal

abbrev pub invariant-loop-self : goal.invariant-loop-self
invariant-loop-self l = record {
  behind : l.gone ≤ l.self.at;
  stands : (o : Choice) (path : Path) (k : ℕ) (rows : List Row) (j : ℕ)
      → l.wanted ≡ wanted_of o.extent → Knows o path (drop k l.held.items) rows
      → Stands o path (l.gone + k) rows j l.fn.self → Stands o path (l.gone + k) rows j l.self;
}

abbrev pub decreases-loop-self : goal.decreases-loop-self
decreases-loop-self l = l.gone + length l.held.items - l.self.at
