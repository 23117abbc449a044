-- What is remembered of a column.
use Rattle.std.specs.Prelude.{◌≡◌, ℕ, List, ◌∷◌, Option, None, Some, Vec, if◌then◌else◌}
use Rattle.std.specs.declared.rc.Rc.{Rc}
use Rattle.hum_score.specs.Row.{Row}
use Rattle.hum_score.specs.Sign.{sign_of, is_exclusive}
use Rattle.hum_score.specs.Spines.{Path}
use Rattle.hum_score.specs.Score.{IsOpen, path_after}
use Rattle.hum_path.specs.Memories.{Remember}
use Rattle.hum_stage.specs.Decided.{Decision}
use Rattle.hum_choices.specs.declared.ditto.DittoOptions.{DittoOptions}
use Rattle.hum_ditto.specs.Ditto.{may_repeat, ditto}

-- The token that a null token would repeat, after one cell more.
abbrev pub last_seen : Option (List ℕ) → List ℕ → Option (List ℕ) → Option (List ℕ)
last_seen skip token last =
    if is_exclusive (sign_of token) then None
    else if may_repeat skip token then Some token
    else last

-- what a memory holds, which several may share
abbrev pub shown : {Z Y : Type 0} → Option (Rc (Vec ℕ Z) Y) → Option (List ℕ)
shown None = None
shown (Some shared) = Some shared.value.items

-- The state decides as the command does, has followed the spines, and remembers each column.
pub record Follows (options : DittoOptions) (path : Path) (memories : List (Option (List ℕ)))
    (decide : Decision) (past : List Row) : Type 0 where
  pub command : decide ≡ ditto options
  pub spines : path ≡ path_after past
  pub remembered : Remember (last_seen options.skip) None past memories

-- Whatever the state followed, with one record more it follows that too.
abbrev pub HasRemembered : (Decision → List Row → Type 0) → (Decision → List Row → Type 0) → Row
    → Type 0
HasRemembered before after row = (decide : Decision) (past : List Row) → before decide past
    → IsOpen (row ∷ past) → after decide (row ∷ past)
