-- The first rule that a score breaks, told by its records alone.
use Rattle.std.specs.Prelude.{◌≡◌, ℕ, List, [], ◌∷◌, Option, None, Some, Ok, option_map}
use Rattle.hum_text.specs.Text.{lines, fault_of}
use Rattle.hum_score.specs.Row.{Row}
use Rattle.hum_score.specs.Spelling.{reading}
use Rattle.hum_score.specs.declared.spines.PathFault.{PathFault}
use Rattle.hum_score.specs.Score.{score_fault}
use Rattle.hum_stage.specs.declared.faults.Rule.{Rule}
use Rattle.hum_read.specs.Denoted.{path_rule, standard, score_of}

-- each line is read as the record at its place
abbrev pub AreReadAs : List (List ℕ) → List Row → Type 0
AreReadAs [] [] = Unit {0}
AreReadAs [] (row ∷ rows) = ⊥
AreReadAs (line ∷ lines) [] = ⊥
AreReadAs (line ∷ lines) (row ∷ rows) = (reading line ≡ Ok row) × AreReadAs lines rows

-- a line, and the rule of the spines that it breaks
abbrev pub rule_at : Option (ℕ × PathFault) → Option (ℕ × Rule)
rule_at None = None
rule_at (Some (line, fault)) = option_map (λ rule. (line, rule)) (path_rule fault)

-- Bytes whose text is sound and whose lines are records denote a score that breaks the rule that
-- these records break first, and else all of them.
pub record BreaksAsItsRecords (bytes : List ℕ) (rows : List Row) : Type 0 where
  pub fault : (score_of bytes).fault ≡ rule_at (score_fault [] rows)
  pub whole : score_fault [] rows ≡ None → (score_of bytes).rows ≡ rows

abbrev pub IsOfItsRecords : List ℕ → Type 0
IsOfItsRecords bytes =
    (rows : List Row) → fault_of standard bytes ≡ None → AreReadAs (lines bytes) rows
    → BreaksAsItsRecords bytes rows
