-- What is heard of the tokens of a data record.
use Rattle.std.specs.Prelude.{ℕ, Bool, true, false, List, if◌then◌else◌, slice_index_or, nat_le}
use Rattle.std.specs.Prelude.{[], Option, Some, None}
use Rattle.hum_score.specs.declared.records.SpinedKind.TheVariants.{Values}
use Rattle.hum_score.specs.Row.{Row, Spined}
use Rattle.hum_context.specs.declared.heard.Heard.{Heard}
use Rattle.hum_context.specs.declared.heard.Heard.TheVariants.{Passed, Taken}
use Rattle.hum_context.specs.Context.{Choice, Extent, First, Between, is_collectable, begins}

-- how many tokens are wanted, where that is known
abbrev pub wanted_of : Extent → Option ℕ
wanted_of (First n) = Some n
wanted_of (Between begins ends) = None

-- whether so many tokens are enough, the last of which ends a group or doesn't
abbrev pub enough_by : Option ℕ → ℕ → Bool → Bool
enough_by (Some number) count ends = nat_le number count
enough_by None count ends = ends

-- whether a token is the last of those from one that begins
abbrev pub ends : Extent → List ℕ → Bool
ends (First n) token = false
ends (Between opens closes) token = closes token

-- whether a token is collected, and what it then begins and ends
abbrev pub heard_of : Choice → List ℕ → Heard
heard_of o token =
    if is_collectable o token then Taken (begins o.extent token) (ends o.extent token) else Passed

abbrev pub is_taken : Heard → Bool
is_taken Passed = false
is_taken (Taken begins ends) = true

-- what is heard of a record's token in a column: only data is collected
abbrev pub heard_under : Choice → Row → ℕ → Heard
heard_under o (Spined Values tokens) c = heard_of o (slice_index_or tokens c [])
heard_under o _ c = Passed
