-- Which bytes are the text of a plan.
use Rattle.std.specs.Prelude.{◌≡◌, ℕ, ◌+◌, ◌<◌, ◌≤◌, List, length, take, count_by}
use Rattle.std.specs.Prelude.{nat_lt, if◌then◌else◌, Option, None, Some}
use Rattle.std.specs.Str.{is_utf8, IsValidUpTo}
use Rattle.std.specs.Str.Lossy.{utf8_valid_len}
use Rattle.hum_words.specs.Branches.{is_lf}
use Rattle.hum_words.specs.declared.text.TheConstants.{LONGEST_PLAN}
use Rattle.hum_words.specs.declared.text.PlanTextFault.{PlanTextFault}
use Rattle.hum_words.specs.declared.text.PlanTextFault.TheVariants.{TooLong, NotUtf8}

-- how many bytes a plan may have
abbrev pub longest : ℕ
longest = LONGEST_PLAN

-- the number of the line that the byte behind a front stands in
abbrev pub line_behind : List ℕ → ℕ
line_behind front = count_by is_lf front + 1

-- A fault of bytes: there are too many, or, if not, the longest front that is UTF-8 isn't all of
-- them, and the line is that of the byte behind it.
abbrev pub IsFault : PlanTextFault → List ℕ → Type 0
IsFault TooLong bytes = longest < length bytes
IsFault (NotUtf8 line) bytes = (length bytes ≤ longest)
    × ((n : ℕ) × IsValidUpTo bytes n × (line ≡ line_behind (take n bytes)))

-- the fault of bytes, if they have one
unfoldable pub fault_of : List ℕ → Option PlanTextFault
fault_of bytes =
    if nat_lt longest (length bytes) then Some TooLong
    else if is_utf8 bytes then None
    else Some (NotUtf8 (line_behind (take (utf8_valid_len bytes) bytes)))
