-- How the program ends: its status, and the line that it tells.
use Rattle.std.specs.Prelude.{◌≡◌, ◌⊎◌, ℕ, List, codes}
use Rattle.hum_net.specs.Outcomes as outcomes
use Rattle.hum_program.specs.declared.ending.Ending.{Ending}
use Rattle.hum_program.specs.declared.ending.Ending.TheVariants.{Outcome, Usage, CannotRead, Memory}

-- A command line that is refused is 2; a plan that can't be read, and memory that runs out before, are 3.
abbrev pub status_of : Ending → ℕ
status_of (Outcome outcome) = outcomes.status_of outcome
status_of Usage = 2
status_of CannotRead = 3
status_of Memory = 3

-- the line, without its end
abbrev pub line_of : Ending → List ℕ
line_of (Outcome outcome) = outcomes.line_of outcome
line_of Usage = codes "humpipe: usage: humpipe [--link N] [--order left|right] [PIPELINE]"
line_of CannotRead = codes "humpipe: cannot read plan"
line_of Memory = codes "humpipe: out of memory"

-- The plan or the bundle couldn't be read, or memory ran out before it was.
abbrev pub IsUnread : Ending → Type 0
IsUnread ending = (ending ≡ CannotRead) ⊎ (ending ≡ Memory)
