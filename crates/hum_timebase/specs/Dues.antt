-- Records that are due round one.
use Rattle.std.specs.Prelude.{◌≡◌, ℕ, ◌+◌, ◌<◌, ◌^◌, true, List, [], ◌++◌, length, replicate}
use Rattle.std.specs.Prelude.{Option, None, Some, is_some}
use Rattle.std.specs.Option.{option_to_list}
use Rattle.hum_score.specs.Row.{Row, Comment}
use Rattle.hum_record.specs.Nulls.{null_row}

-- a record, or any where there is none
abbrev pub row_in : Option Row → Row
row_in None = Comment []
row_in (Some row) = row

-- so many copies of another record, a record if there is one, and so many copies again
abbrev pub due_rows : ℕ → Option Row → ℕ → Option Row → List Row
due_rows before single after other =
    replicate before (row_in other)
    ++ (option_to_list single ++ replicate after (row_in other))

-- the other is known where there are copies of it, and all can be counted
pub record IsDue (before : ℕ) (single : Option Row) (after : ℕ) (other : Option Row) : Type 0 where
  pub known : 0 < before + after → is_some other ≡ true
  pub few : before + length (option_to_list single) + after < 2 ^ 64

-- where it is told how wide the other is, it is the null record as wide
abbrev pub AreNulls : ℕ → Option Row → Type 0
AreNulls width other = 0 < width → other ≡ Some (null_row width)

pub record AreDue (before : ℕ) (single : Option Row) (after : ℕ) (other : Option Row) (width : ℕ)
    : Type 0 where
  pub due : IsDue before single after other
  pub nulls : AreNulls width other
