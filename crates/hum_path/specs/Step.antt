-- What one step over a record answers.
use Rattle.std.specs.Prelude.{◌≡◌, ◌≢◌, ◌<◌, ◌≤◌, Bool, false, ℕ, List, [], length, None}
use Rattle.std.specs.Prelude.{Some, Result, Ok, Err, IsTrue}
use Rattle.std.specs.List.{list_any, find, AllByRecursion}
use Rattle.std.specs.declared.vec.Vec.{Vec}
use Rattle.std.specs.declared.alloc.Global.{Global}
use Rattle.std.specs.declared.alloc.AllocError.{AllocError}
use Rattle.hum_score.specs.declared.records.Kind.TheVariants.{Values}
use Rattle.hum_score.specs.Row.{Row, Comment, Spined, kind_of, text_of, width_of}
use Rattle.hum_score.specs.Spelling.{IsTextOf, is_empty}
use Rattle.hum_score.specs.declared.spines.Move.{Move}
use Rattle.hum_path.specs.declared.moved.Moves.{Moves}
use Rattle.hum_score.specs.declared.spines.PathFault.{PathFault}
use Rattle.hum_score.specs.declared.spines.PathFault.TheVariants.{Memory}
use Rattle.hum_path.specs.declared.steering.NextSpines.{NextSpines}
use Rattle.hum_score.specs.Sign.{steers}
use Rattle.hum_score.specs.Spines.{Path, moves, after, source}
use Rattle.hum_path.specs.Tracked.{Tracked}
use Rattle.hum_score.specs.Texts.{texts}
use Rattle.hum_score.specs.Rules.{fault_of, breaks, in_order, Refuses}
use Rattle.hum_path.specs.Asked.{IsStepBy}

-- each spine comes from one under a token of the record; a global comment has no tokens
abbrev pub ComeFrom : Row → List Move → Type 0
ComeFrom (Comment text) found = Unit {0}
ComeFrom (Spined kind tokens) found = AllByRecursion (λ move. source move < length tokens) found

-- where a record that asks nothing of the spines breaks no rule, all stay; else the first rule that
-- it breaks
abbrev pub IsStay : Path → Row → Result Moves PathFault → Type 0
IsStay path row (Ok found) =
    (fault_of path row ≡ None)
    × (after path row ≡ path)
    × (found ≡ moves path row)
    × ComeFrom row found
IsStay path row (Err fault) = (fault_of path row ≡ Some fault) × (fault ≢ Memory)

-- Data with so many tokens breaks no rule, and all spines stay.
abbrev pub KeepsData : Path → ℕ → Type 0
KeepsData path width =
    (row : Row) → IsTextOf row (text_of row) → kind_of row ≡ Values → width_of row ≡ width
    → (fault_of path row ≡ None) × (after path row ≡ path)

-- the spines before an interpretation that asks something of them, those behind it, and what it
-- answers; behind a rule that it breaks nothing has changed
abbrev pub HasSteered : Tracked → Row → Tracked → Result Moves PathFault → Type 0
HasSteered old row new (Ok found) =
    (fault_of old.path row ≡ None)
    × (found ≡ moves old.path row)
    × (new ≡ record old { path = after old.path row })
    × ComeFrom row found
HasSteered old row new (Err fault) =
    Refuses fault (fault_of old.path row)
    × (fault ≢ Memory → new ≡ old)
    × (fault ≡ Memory → IsTrue new.spent)

-- the same of an interpretation that breaks no rule
abbrev pub HasFollowed : Tracked → Row → Tracked → Result Moves AllocError → Type 0
HasFollowed old row new (Ok found) =
    (found ≡ moves old.path row)
    × (new ≡ record old { path = after old.path row })
    × ComeFrom row found
HasFollowed old row new (Err error) =
    (steers row ≡ false → IsTrue old.spent) × IsTrue new.spent

-- where an interpretation breaks no rule, the moves and the exclusive interpretations after it;
-- else the first rule that it breaks
abbrev pub IsStep : Path → List (List ℕ) → Result NextSpines PathFault → Type 0
IsStep path tokens = IsStepBy (find (breaks path tokens) in_order) path tokens

-- the fields of a path
pub record IsTidy (opened waits : Bool) (names : List (Vec ℕ Global)) : Type 0 where
  pub at_most : length names ≤ 4096
  pub unopened : opened ≡ false → names ≡ []
  pub waiting : waits ≡ list_any is_empty (texts names)
