-- The records that are due round one.
use Rattle.std.proofs.lemmas.Bool.Decides.{nat_tests}
use Rattle.std.proofs.lemmas.Grind.{common_steps}
use Rattle.std.proofs.Common.{◌≡◌, ◌⊎◌, ℕ, ◌+◌, ◌<◌, ◌≤◌, sym, ap, arith, Bool}
use Rattle.std.proofs.Common.{◌∙◌, length, replicate}
use Rattle.std.specs.Prelude.{Option, None, Some, if◌then◌else◌}
use Rattle.std.specs.Option.{option_to_list}
use Rattle.hum_score.specs.declared.records.Kind.TheVariants.{Values as AnyValues}
use Rattle.hum_score.specs.Row.{Row, kind_of, tokens_of, text_of}
use Rattle.hum_score.specs.Spelling.{IsTextOf}
use Rattle.hum_record.specs.Nulls.{null_row}
use Rattle.hum_record.specs.Room.{room_for, rooms_for}
use Rattle.hum_record.proofs.Rooms.{rooms_append}
use Rattle.hum_timebase.specs.Dues.{row_in, due_rows, AreNulls}
use Rattle.hum_timebase.specs.Timebase.{around}

-- a data record has a token
pub some_wide : (row : Row) → IsTextOf row (text_of row) → kind_of row ≡ AnyValues → 1 ≤ length (tokens_of row)
some_wide = grind (arith, common_steps)

pub null_known : (row : Row) (nulls width : ℕ) (other : Option Row) → IsTextOf row (text_of row) → kind_of row ≡ AnyValues
    → nulls ≡ width → width ≡ length (tokens_of row) → AreNulls nulls other → other ≡ Some (null_row (length (tokens_of row)))
null_known = grind (arith, common_steps)

pub null_made : (made : Row) (width now all : ℕ) → made ≡ null_row width → width ≡ all → now ≡ all → AreNulls now (Some made)
null_made made width now all is before behind some = ap Some (is ∙ ap null_row (before ∙ sym behind))

pub due_among : (before after : ℕ) (stays : Bool) (row : Row) (other : Option Row) → kind_of row ≡ AnyValues
    → (0 < before + after → other ≡ Some (null_row (length (tokens_of row))))
    → due_rows before (if stays then Some row else None) after other ≡ around before stays after (tokens_of row)
due_among = grind (arith, nat_tests)

-- what copies take together is what one takes at least
some_room : (n : ℕ) (row : Row) → 0 < n → room_for row ≤ rooms_for (replicate n row)
some_room = grind (arith, nat_tests)

other_room : (other : Option Row) → rooms_for (option_to_list other) ≤ room_for (row_in other)
other_room = grind (arith, nat_tests)

-- all that is due takes what the single record takes, and the one that there are copies of
pub alone_room : (before after : ℕ) (single other : Option Row)
    → rooms_for (option_to_list single) ≤ rooms_for (due_rows before single after other)
alone_room = grind (arith, nat_tests, rooms_append, replicate)

pub around_room : (before after : ℕ) (single other : Option Row) → (0 < before) ⊎ (0 < after)
    → rooms_for (option_to_list single) + rooms_for (option_to_list other) ≤ rooms_for (due_rows before single after other)
around_room = grind (arith, nat_tests, rooms_append, replicate, other_room, some_room)
