use Rattle.std.proofs.Common.{◌≡◌, ◌+◌, ℕ, List, ◌∷◌}
use Rattle.hum_score.specs.Row.{Row}
use Rattle.hum_score.specs.Spines.{Path, after}
use Rattle.hum_context.specs.Context.{Choice}
use Rattle.hum_context.specs.Heard.{wanted_of}
use Rattle.hum_context.specs.Queue.{Known}
use Rattle.hum_context.specs.Walking.{AllStand}
use Rattle.hum_context.proofs.sharing.share.Given as goal

abbrev pub invariant-loop-j : goal.invariant-loop-j
invariant-loop-j l = (o : Choice) (path : Path) (first : ℕ) (row : Row) (rows : List Row)
    → l.wanted ≡ wanted_of o.extent → Known o path row l.kept
    → AllStand o path first (row ∷ rows) l.walks
    → AllStand o (after path row) (first + 1) rows l.next.items
