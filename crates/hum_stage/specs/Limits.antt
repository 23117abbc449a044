-- How large a score may be. A record of over 1,048,576 bytes breaks L1, and one for which a score of
-- 4,294,967,295 records has no room breaks L2. L1 is told first: a record that is too long is refused
-- by it, however many records there are.
use Rattle.std.specs.Prelude.{ℕ, nat_le, nat_lt, List, [], ◌∷◌, length, if◌then◌else◌}
use Rattle.std.specs.Prelude.{Option, Some, None, Result, Ok, Err}
use Rattle.hum_record.specs.declared.TheConstants.{MOST_BYTES}
use Rattle.hum_score.specs.Row.{Row, text_of}
use Rattle.hum_stage.specs.declared.TheConstants.{MOST_RECORDS}
use Rattle.hum_stage.specs.declared.faults.Rule.{Rule}
use Rattle.hum_stage.specs.declared.faults.Rule.TheVariants.{L1, L2}

-- a record, unless it is too long
abbrev pub if_fits : Row → Result (List Row) Rule
if_fits row = if nat_le (length (text_of row)) MOST_BYTES then Ok (row ∷ []) else Err L1

-- records, unless there are more than there is room for; what is refused already keeps its rule
abbrev pub in_room : ℕ → Result (List Row) Rule → Result (List Row) Rule
in_room room (Ok rows) = if nat_le (length rows) room then Ok rows else Err L2
in_room room (Err rule) = Err rule

-- the first of the two that a record of so many bytes breaks, behind so many that were given
abbrev pub limit_broken : ℕ → ℕ → Option Rule
limit_broken bytes given =
    if nat_lt MOST_BYTES bytes then Some L1
    else if nat_le MOST_RECORDS given then Some L2
    else None
