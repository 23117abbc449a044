-- Ways down a spine, past records in which nothing is found.
use Rattle.std.specs.Prelude.{◌≡◌, ◌⊎◌, ◌<◌, ◌&&◌, ℕ, ◌-◌, Bool, true, false}
use Rattle.std.specs.Prelude.{List, [], ◌++◌, filter, length, slice_index_or, Option, Some, None}
use Rattle.hum_score.specs.Row.{Row}
use Rattle.hum_score.specs.Spines.{Path}
use Rattle.hum_score.specs.InOrder.{through}
use Rattle.hum_context.specs.declared.heard.Heard.{Heard}
use Rattle.hum_context.specs.declared.heard.Heard.TheVariants.{Passed, Taken}
use Rattle.hum_context.specs.declared.links.Link.{Link}
use Rattle.hum_context.specs.declared.links.Links.{Links}
use Rattle.hum_context.specs.declared.links.Ways.{Ways}
use Rattle.hum_context.specs.declared.links.Sought.{Sought}
use Rattle.hum_context.specs.declared.links.Sought.TheVariants.{Any, Last}
use Rattle.hum_context.specs.Context.{Choice, is_collectable, chain}
use Rattle.hum_context.specs.Columns.{column_after}
use Rattle.hum_context.specs.Heard.{ends}

-- what a walk looks for
abbrev pub sought_of : Option ℕ → Sought
sought_of None = Last
sought_of (Some n) = Any

-- whether a token is looked for
abbrev pub is_sought : Choice → Sought → List ℕ → Bool
is_sought o Any token = is_collectable o token
is_sought o Last token = is_collectable o token && ends o.extent token

-- the same, by what was heard of it
abbrev pub is_found : Sought → Heard → Bool
is_found sought Passed = false
is_found Any (Taken begins ends) = true
is_found Last (Taken begins ends) = ends

-- From a cell on nothing is found in so many rows, and then the spine stands in this column.
pub record Leads (o : Choice) (sought : Sought) (path : Path) (rows : List Row) (c over to : ℕ)
    : Type 0 where
  pub front : List Row
  pub rest : List Row
  pub split : rows ≡ front ++ rest
  pub long : length front ≡ over
  pub column : column_after path front c ≡ Some to
  pub none : filter (is_sought o sought) (chain path front c) ≡ []

-- The same from a cell of the row at place n to one of that at place m.
pub record LeadsFrom (o : Choice) (sought : Sought) (path : Path) (rows : List Row) (n c m to : ℕ)
    : Type 0 where
  pub before : List Row
  pub behind : List Row
  pub split : rows ≡ before ++ behind
  pub long : length before ≡ n
  pub leads : Leads o sought (through path before) behind c (m - n) to

abbrev pub no_link : Link
no_link = record { over = 0; column = 0 }

abbrev pub no_ways : Ways
no_ways = record { any = no_link; last = no_link }

abbrev pub way_of : Ways → Sought → Link
way_of ways Any = ways.any
way_of ways Last = ways.last

abbrev pub with_way : Ways → Sought → Link → Ways
with_way ways Any link = record { any = link; last = ways.last }
with_way ways Last link = record { any = ways.any; last = link }

abbrev pub link_in : Links → Sought → ℕ → Link
link_in links sought c = way_of (slice_index_or links.ways.items c no_ways) sought

-- Each that is known leads from its cell, which is one of the first of some rows.
abbrev pub Linked : Choice → Path → List Row → Links → Type 0
Linked o path rows links = (sought : Sought) (c : ℕ) → 0 < (link_in links sought c).over
    → Leads o sought path rows c (link_in links sought c).over (link_in links sought c).column

-- What is known from a cell on once one more is: that, or what was.
abbrev pub IsPut : Links → Sought → ℕ → Link → Sought → ℕ → Link → Type 0
IsPut old sought c link s i new =
    (new ≡ link_in old s i) ⊎ ((s ≡ sought) × (i ≡ c) × (new ≡ link))
