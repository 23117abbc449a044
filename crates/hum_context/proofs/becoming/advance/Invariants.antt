use Rattle.std.proofs.Common.{◌≡◌, ◌≤◌, ℕ, List, [], ◌∷◌, length, None}
use Rattle.hum_score.specs.declared.records.SpinedKind.TheVariants.{Values}
use Rattle.hum_score.specs.Row.{Row, Spined}
use Rattle.hum_score.specs.Spines.{Path}
use Rattle.hum_context.specs.Context.{Choice, taken}
use Rattle.hum_context.specs.Heard.{wanted_of}
use Rattle.hum_context.specs.Queue.{Knows}
use Rattle.hum_context.specs.Walking.{AllStand}
use Rattle.hum_context.proofs.Weighing.{Sofar}
use Rattle.hum_context.proofs.becoming.advance.Given as goal

abbrev pub invariant-loop-j : goal.invariant-loop-j
invariant-loop-j l = record {
  wide : l.width ≤ length l.walks.items;
  stand : (o : Choice) (path : Path) (rows : List Row) → l.wanted ≡ wanted_of o.extent
      → taken o.extent [] ≡ None → Knows o path l.held.items rows
      → AllStand o path l.gone rows l.fn.walks.items → AllStand o path l.gone rows l.walks.items;
  known : (o : Choice) (path : Path) (tokens : List (List ℕ)) (rows : List Row)
      → l.wanted ≡ wanted_of o.extent → taken o.extent [] ≡ None
      → Knows o path l.held.items (Spined Values tokens ∷ rows)
      → AllStand o path l.gone (Spined Values tokens ∷ rows) l.fn.walks.items
      → (made : List (List ℕ)) × Sofar o path (Spined Values tokens) rows tokens l.j made;
}
