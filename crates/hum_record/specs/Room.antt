-- How much room a record has: that of a short one, and twice what its text and its tokens need.
use Rattle.std.specs.Prelude.{◌≡◌, ◌<◌, ◌≤◌, ◌+◌, ◌-◌, ◌*◌, ◌^◌, min, ℕ, Vec, List, [], ◌∷◌, length}
use Rattle.std.specs.Prelude.{Bool, true, false, max, slice_index, take, vec_len}
use Rattle.hum_score.specs.Row.{Row, text_of, width_of}

-- for the bytes of its text
abbrev pub most_bytes : ℕ → ℕ
most_bytes len = 512 + 2 * len

-- for the places where its tokens end
abbrev pub most_places : ℕ → ℕ
most_places count = 288 + 2 * count

-- for both, in bytes: a place takes four
abbrev pub most_room : ℕ → ℕ → ℕ
most_room len count = most_bytes len + 4 * most_places count

-- the most that a record takes which says this, and that several take
abbrev pub room_for : Row → ℕ
room_for row = most_room (length (text_of row)) (width_of row)

abbrev pub rooms_for : List Row → ℕ
rooms_for [] = 0
rooms_for (row ∷ rows) = room_for row + rooms_for rows

-- what a text and the places where its tokens end take at least, as far as a number goes
abbrev pub least_room : ℕ → ℕ → ℕ
least_room len count = min (len + 4 * count) (2 ^ 64 - 1)

-- A list of bytes has room for so many and LF behind them, which stands there, and not too much.
pub record IsRoomOf {Z : Type 0} (held : Vec ℕ Z) (len : ℕ) : Type 0 where
  pub within : len < vec_len held
  pub most : vec_len held ≤ most_bytes len
  pub ended : slice_index held.items len ≡ 10

-- A list begins with what it was. It was given room for so many items, and no more than a limit; or where it was
-- given none, it is as long as it was.
pub record IsGiven {Z : Type 0} (given : Bool) (old new : Vec ℕ Z) (count limit : ℕ) : Type 0 where
  pub kept : take (vec_len old) new.items ≡ old.items
  pub more : vec_len old ≤ vec_len new
  pub room : given ≡ true → count ≤ vec_len new
  pub most : vec_len new ≤ max (vec_len old) limit
  pub full : given ≡ false → vec_len new ≡ vec_len old
