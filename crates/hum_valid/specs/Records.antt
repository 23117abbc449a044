-- Lawful records, and stages that make none but these.
use Rattle.std.specs.Prelude.{List}
use Rattle.std.specs.List.{AllByRecursion}
use Rattle.hum_score.specs.Row.{Row, text_of}
use Rattle.hum_score.specs.Spelling.{IsTextOf}
use Rattle.hum_score.specs.InOrder.{IsScore}
use Rattle.hum_stage.specs.Outcome.{Outcome, settled}
use Rattle.hum_assemble.specs.Change.{Input}
use Rattle.hum_assemble.specs.Meaning.{output, AreScores}

-- A global comment, or tokens of one kind that aren't empty; no tab in a token, no CR or LF, and at
-- most 1,048,576 bytes.
abbrev pub IsRecord : Row → Type 0
IsRecord row = IsTextOf row (text_of row)

abbrev pub AreRecords : List Row → Type 0
AreRecords = AllByRecursion IsRecord

-- Of lawful records that are a score it makes lawful records.
abbrev pub KeepsRecords : (List Row → List Outcome) → Type 0
KeepsRecords outcomes = (p : List Row) → IsScore p → AreRecords p → AreRecords (settled (outcomes p))

-- So does assemble of several scores.
abbrev pub MergesRecords : Type 0
MergesRecords = (xs : List Input) → AreScores xs → AllByRecursion (λ x. AreRecords x.put) xs
    → AreRecords (output xs)
