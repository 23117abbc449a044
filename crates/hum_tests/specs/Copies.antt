-- A command that gives each record so many times.
use Rattle.std.specs.Prelude.{ℕ, List, [], Option, None, Some, Ok, replicate}
use Rattle.hum_score.specs.Row.{Row}
use Rattle.hum_stage.specs.Decided.{Decision}

abbrev pub copies : Option Row → ℕ → List Row
copies None times = []
copies (Some row) times = replicate times row

abbrev pub repeating : ℕ → Decision
repeating times = λ past row. Ok (replicate times row)
