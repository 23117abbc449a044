use Rattle.std.proofs.Common.{◌≡◌, ℕ, List, ◌∷◌, length}
use Rattle.hum_score.specs.Row.{Row}
use Rattle.hum_score.specs.Spines.{Path}
use Rattle.hum_context.specs.Context.{Choice}
use Rattle.hum_context.specs.Heard.{wanted_of}
use Rattle.hum_context.specs.Queue.{Known}
use Rattle.hum_context.specs.Walking.{AllStand}
use Rattle.hum_context.proofs.Shorter.{ShortTo}
use Rattle.hum_context.proofs.sharing.shorten.Given as goal

abbrev pub invariant-loop-j : goal.invariant-loop-j
invariant-loop-j l = record {
  wide : length l.walks.items ≡ length l.fn.walks.items;
  stand : (o : Choice) (path : Path) (first : ℕ) (row : Row) (rows : List Row)
      → l.wanted ≡ wanted_of o.extent → Known o path row l.kept
      → AllStand o path first (row ∷ rows) l.fn.walks.items
      → ShortTo o path first row rows l.j l.walks.items;
}
