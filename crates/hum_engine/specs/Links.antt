-- How a link stands for what has passed over it.
use Rattle.std.specs.Prelude.{◌≡◌, ℕ, Bool, true, false, nat_lt, List, [], ◌∷◌, length, Option, Some, None}
use Rattle.hum_score.specs.Row.{Row}
use Rattle.hum_engine.specs.Traffic.{Traffic}
use Rattle.hum_stage.specs.declared.faults.End.{End}
use Rattle.hum_engine.specs.declared.link.Link.{Link}
use Rattle.hum_engine.specs.declared.link.Taken.{Taken}
use Rattle.hum_engine.specs.declared.link.Taken.TheVariants as taken

-- It holds what waits, in room for so many records, and the two ends. What was taken, and the bytes
-- that its stage has read, it doesn't know.
pub record IsLink (size : ℕ) (link : Link) (l : Traffic) : Type 0 where
  pub waiting : link.waiting.items ≡ l.waiting
  pub capacity : link.waiting.capacity ≡ size
  pub mark : link.mark ≡ l.mark
  pub heard : link.heard ≡ l.heard

-- whether a record more has room
abbrev pub room : Link → Bool
room link = nat_lt (length link.waiting.items) link.waiting.capacity

-- the record that comes next, if one waits
abbrev pub next_of : List Row → Option Row
next_of (row ∷ rows) = Some row
next_of [] = None

-- what is taken of what waits: that record or, where none waits, the end, if it is set
abbrev pub taken_of : List Row → Option End → Taken
taken_of (row ∷ rows) mark = taken.Record row
taken_of [] (Some end) = taken.End end
taken_of [] None = taken.Nothing

-- whether something was taken
abbrev pub is_some_of : Taken → Bool
is_some_of (taken.Record row) = true
is_some_of (taken.End end) = true
is_some_of taken.Nothing = false

-- It tells this of all that it may stand for.
abbrev pub Tells : {A : Type 0} → Link → A → (ℕ → Traffic → A) → Type 0
Tells link answer asked = (size : ℕ) (l : Traffic) → IsLink size link l → answer ≡ asked size l

-- Whatever it stood for, it now stands for what this makes of that.
abbrev pub Goes : Link → Link → (Traffic → Traffic) → Type 0
Goes old new change =
    (size : ℕ) (l : Traffic) → IsLink size old l → IsLink size new (change l)
