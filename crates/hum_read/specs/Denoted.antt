-- The score that bytes denote: the records of its lines, up to the first rule that is broken.
use Rattle.std.specs.Prelude.{ℕ, ◌+◌, ◌-◌, ◌^◌, if◌then◌else◌, List, [], ◌∷◌, take}
use Rattle.std.specs.Prelude.{Option, None, Some, Result, Ok, Err, option_map}
use Rattle.hum_text.specs.declared.Limits.{Limits}
use Rattle.hum_text.specs.declared.TextFault.{TextFault}
use Rattle.hum_text.specs.declared.TextFault.TheVariants as text
use Rattle.hum_text.specs.Text.{lines, fault_of}
use Rattle.hum_score.specs.declared.records.RecordFault.{RecordFault}
use Rattle.hum_score.specs.Row.{Row}
use Rattle.hum_score.specs.Spelling.{reading}
use Rattle.hum_score.specs.declared.spines.PathFault.{PathFault}
use Rattle.hum_score.specs.Spines.{Path, Unopened, after}
use Rattle.hum_score.specs.Rules.{is_unfinished, fault_of as path_fault_of}
use Rattle.hum_stage.specs.declared.faults.Rule.{Rule}
use Rattle.hum_stage.specs.declared.faults.Rule.TheVariants as rule
use Rattle.hum_words.specs.declared.commands.Command.TheVariants.{Read}
use Rattle.hum_stage.specs.declared.faults.End.{End}
pub use Rattle.hum_stage.specs.Refusals.{record_rule, path_rule}
use Rattle.hum_stage.specs.declared.faults.End.TheVariants.{Closed, Broken}

-- The records of a score, and the first rule that is broken, if one is, with its line, from 1.
pub record Score : Type 0 where
  pub rows : List Row
  pub fault : Option (ℕ × Rule)

-- the rule that a text breaks; a failed read and running out of memory break none
abbrev pub text_rule : TextFault → Option Rule
text_rule text.S1 = Some rule.S1
text_rule text.S2 = Some rule.S2
text_rule text.S3 = Some rule.S3
text_rule text.S7 = Some rule.S7
text_rule text.Read = None
text_rule text.Memory = None

-- a record, unless it breaks a rule of the spines
abbrev pub unless : Row → Option PathFault → Result Row (Option Rule)
unless row None = Ok row
unless row (Some fault) = Err (path_rule fault)

-- what a line is read as, tested on the spines before it
abbrev pub on_spines : Path → Result Row RecordFault → Result Row (Option Rule)
on_spines path (Ok row) = unless row (path_fault_of path row)
on_spines path (Err fault) = Err (record_rule fault)

-- A line after others that led to these spines: its record, or the rule that it breaks. The rules
-- of its text come before those of the spines.
abbrev pub read_after : Path → List ℕ → Result Row (Option Rule)
read_after path line = on_spines path (reading line)

-- no record more: a rule is broken in this line
abbrev pub broken_at : ℕ → Option Rule → Score
broken_at line rule = record { rows = []; fault = option_map (λ r. (line, r)) rule }

-- no record more, and no rule is broken
abbrev pub closed : Score
closed = record { rows = []; fault = None }

-- a record, and then the rest of a score
abbrev pub before : Row → Score → Score
before row rest = record { rows = row ∷ rest.rows; fault = rest.fault }

-- What follows n lines: the text is broken in a line, or else spines are still open, or nothing.
abbrev pub ending : Path → ℕ → Option (ℕ × TextFault) → Score
ending path n (Some (line, fault)) = broken_at line (text_rule fault)
ending path n None = if is_unfinished path then broken_at (n + 1) (Some rule.P8) else closed

-- the record of a line and what follows it, or the rule that the line breaks
abbrev pub onward : ℕ → Result Row (Option Rule) → (Row → Score) → Score
onward line (Ok row) rest = before row (rest row)
onward line (Err rule) rest = broken_at line rule

-- The score of lines that stand after n others, which led to these spines, where the text is broken
-- behind them or isn't.
abbrev pub denoted : Path → ℕ → List (List ℕ) → Option (ℕ × TextFault) → Score
denoted path n [] broken = ending path n broken
denoted path n (line ∷ lines) broken =
    onward (n + 1) (read_after path line)
    (λ row. denoted (after path row) (n + 1) lines broken)

-- the lines of a text, up to before the one that is broken
abbrev pub up_to : Option (ℕ × TextFault) → List (List ℕ) → List (List ℕ)
up_to None lines = lines
up_to (Some (line, fault)) lines = take (line - 1) lines

-- how large a score may be: bytes a line, records, and bytes in all
abbrev pub standard : Limits
standard = record { line = 1048576; records = 4294967295; bytes = 2 ^ 40 }

-- The score that bytes denote.
abbrev pub score_of : List ℕ → Score
score_of bytes =
    let broken = fault_of standard bytes in
    denoted Unopened 0 (up_to broken (lines bytes)) broken

-- how a score ends that the stage of this number reads
abbrev pub end_at : ℕ → Option (ℕ × Rule) → End
end_at stage None = Closed
end_at stage (Some (line, rule)) =
    Broken (record { stage = stage; command = Read; line = line; rule = rule })
