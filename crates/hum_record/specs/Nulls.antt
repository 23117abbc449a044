-- Null tokens, which stand where a spine has nothing to say.
use Rattle.std.specs.Prelude.{ℕ, List, replicate}
use lib.Chars.{codes}
use Rattle.hum_score.specs.declared.records.SpinedKind.{SpinedKind}
use Rattle.hum_score.specs.declared.records.SpinedKind.TheVariants.{Local, Interpretation, Values}
use Rattle.hum_score.specs.Row.{Row, Spined}

-- the null token of a kind
abbrev pub null_of : SpinedKind → List ℕ
null_of Local = codes "!"
null_of Interpretation = codes "*"
null_of Values = codes "."

-- so many null tokens
abbrev pub nulls : SpinedKind → ℕ → List (List ℕ)
nulls kind count = replicate count (null_of kind)

-- the data record of so many null tokens
abbrev pub null_row : ℕ → Row
null_row width = Spined Values (nulls Values width)
