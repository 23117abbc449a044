-- What context remembers.
use Rattle.std.specs.Prelude.{◌≡◌, ℕ, ◌+◌, ◌≤◌, List, [], ◌∷◌, length, None}
use Rattle.std.proofs.Common.{ap, suc, refl}
use Rattle.hum_score.specs.Row.{Row}
use Rattle.hum_score.specs.Spines.{Path, after}
use Rattle.hum_score.specs.Score.{path_after, passed}
use Rattle.hum_stage.specs.Look.{Look}
use Rattle.hum_context.specs.declared.queued.Queued.{Queued}
use Rattle.hum_context.specs.declared.walk.Walk.{Walk}
use Rattle.hum_context.specs.Context.{Choice, context, taken}
use Rattle.hum_context.specs.Queue.{Knows}
use Rattle.hum_context.specs.Walking.{AllStand}
use Rattle.hum_stage.specs.declared.TheConstants.{MOST_RECORDS}

-- The state follows the command over the spines. It has the records that wait, and walks from the
-- cells of the first of them; so many are gone.
pub record Follows (o : Choice) (path : Path) (gone : ℕ) (walks : List Walk) (held : List Queued)
    (look : Look) (past rows : List Row) : Type 0 where
  pub command : look ≡ context o
  -- no token is enough
  pub some_wanted : taken o.extent [] ≡ None
  pub spines : path ≡ path_after (passed past rows)
  pub waits : Knows o (path_after past) held rows
  pub stand : AllStand o (path_after past) gone rows walks
  pub counted : gone + length rows ≡ length (passed past rows)
  pub few : length (passed past rows) ≤ MOST_RECORDS

pub knows_each : (o : Choice) (path : Path) (held : List Queued) (rows : List Row)
    → Knows o path held rows → length held ≡ length rows
knows_each o path [] [] h = refl
knows_each o path [] (row ∷ rows) h = absurd h
knows_each o path (kept ∷ held) [] h = absurd h
knows_each o path (kept ∷ held) (row ∷ rows) h =
    ap suc (knows_each o (after path row) held rows h.1)

pub follows_each : (o : Choice) (path : Path) (gone : ℕ) (walks : List Walk) (held : List Queued)
    (look : Look) (past rows : List Row)
    → Follows o path gone walks held look past rows → length held ≡ length rows
follows_each o path gone walks held look past rows h =
    knows_each o (path_after past) held rows h.waits
