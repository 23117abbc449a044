-- What is left of the branches of a plan that is read line by line.
use Rattle.std.specs.Prelude.{ℕ, List}
use Rattle.hum_words.specs.Branches.{lines_of, branches_from}
use Rattle.hum_words.specs.declared.branches.Line.{Line}
use Rattle.hum_words.specs.declared.branches.Lines.{Lines}

-- a line with its number
abbrev pub branch_of : Line → ℕ × List ℕ
branch_of line = (line.number, line.text.now)

-- the branches that are still to come
abbrev pub branches_left : Lines → List (ℕ × List ℕ)
branches_left lines = branches_from lines.number (lines_of lines.rest.now)
