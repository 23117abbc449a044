use Rattle.std.proofs.Common.{◌≡◌, ℕ, List, [], ◌∷◌, None, length}
use Rattle.hum_record.specs.RecordDraft.{Holds}
use Rattle.hum_score.specs.declared.records.SpinedKind.TheVariants.{Values}
use Rattle.hum_score.specs.Row.{Row, Spined}
use Rattle.hum_score.specs.Spines.{Path}
use Rattle.hum_context.specs.Context.{Choice, taken}
use Rattle.hum_context.specs.Heard.{wanted_of}
use Rattle.hum_context.specs.Queue.{Knows}
use Rattle.hum_context.specs.Walking.{AllStand}
use Rattle.hum_context.proofs.Written.{Written}
use Rattle.hum_context.proofs.becoming.write.Given as goal

abbrev pub invariant-loop-j : goal.invariant-loop-j
invariant-loop-j l = record {
  kind : l.making.builder.kind ≡ Values;
  held : (made : List (List ℕ)) × Holds Values l.making.builder l.making.is_long made
      × (length made ≡ l.j);
  made : (o : Choice) (path : Path) (tokens : List (List ℕ)) (rows : List Row)
      → l.wanted ≡ wanted_of o.extent → taken o.extent [] ≡ None
      → Knows o path l.held.items (Spined Values tokens ∷ rows)
      → AllStand o path l.gone (Spined Values tokens ∷ rows) l.walks
      → Written o path tokens rows l.j l.making.builder l.making.is_long;
}
