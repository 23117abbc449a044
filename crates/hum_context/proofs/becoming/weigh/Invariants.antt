use Rattle.std.proofs.Common.{◌≡◌, ◌≤◌, ℕ, List, [], ◌∷◌, drop, None}
use Rattle.hum_score.specs.declared.records.SpinedKind.TheVariants.{Values}
use Rattle.hum_score.specs.Row.{Row, Spined}
use Rattle.hum_score.specs.Spines.{Path}
use Rattle.hum_context.specs.Context.{Choice, taken}
use Rattle.hum_context.specs.Heard.{wanted_of}
use Rattle.hum_context.specs.Queue.{Knows}
use Rattle.hum_context.specs.Walking.{Counts, bytes_of}
use Rattle.hum_context.proofs.Weighing.{Sofar}
use Rattle.hum_context.proofs.becoming.weigh.Given as goal

abbrev pub invariant-loop-j : goal.invariant-loop-j
invariant-loop-j l = record {
  few : l.size ≤ 18014398509481984;
  weighs : (o : Choice) (path : Path) (tokens : List (List ℕ)) (rows : List Row)
      → l.wanted ≡ wanted_of o.extent → taken o.extent [] ≡ None
      → Knows o path (drop l.k l.held.items) (Spined Values tokens ∷ rows)
      → (made : List (List ℕ)) × Sofar o path (Spined Values tokens) rows tokens l.j made
      × Counts l.size (bytes_of made);
}
