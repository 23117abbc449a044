-- Pitches that are written without the sign of a natural.
use Rattle.std.specs.Prelude.{ℕ, not, List, ◌++◌, filter, Option, None, Some, Result, Ok, Err}
use Rattle.hum_score.specs.Row.{Row}
use Rattle.hum_pitch.specs.Pitch.{Spelled}
use Rattle.hum_kern.specs.declared.KernFault.{KernFault}
use Rattle.hum_kern.specs.Classes.{is_natural_sign}
use Rattle.hum_kern.specs.Note.{Notation, Reading, note, notation_of}
use Rattle.hum_stage.specs.declared.faults.Rule.{Rule}
use Rattle.hum_tones.specs.Faults.{rule_of}
use Rattle.hum_tones.specs.Subtokens.{rewritten}
use Rattle.hum_laws.specs.Marked.{all_marked}

-- all parts, without n among the signs of accidentals
abbrev pub without_naturals : Notation → List ℕ
without_naturals parts =
    parts.before
    ++ (parts.letters ++ (filter (λ b. not (is_natural_sign b)) parts.signs ++ parts.left))

-- a subtoken without a pitch stays as it is
abbrev pub if_pitched : List ℕ → Option Spelled → List ℕ
if_pitched part (Some pitch) = without_naturals (notation_of part)
if_pitched part None = part

abbrev pub unsigned_as_read : List ℕ → Result Reading KernFault → Result (Option (List ℕ)) Rule
unsigned_as_read part (Ok reading) = Ok (Some (if_pitched part reading.pitch))
unsigned_as_read part (Err fault) = Err (rule_of fault)

-- what a subtoken becomes
abbrev pub unsigned : List ℕ → Result (Option (List ℕ)) Rule
unsigned part = unsigned_as_read part (note part)

-- A score with the accidental n dropped from each subtoken that has a pitch, in kern columns and
-- barlines aside, and with these records behind each record with **kern.
abbrev pub unsigned_under : List (List ℕ) → List Row → List Row
unsigned_under signs =
    all_marked (record { name = None; signs = signs; becomes = λ above. rewritten unsigned })
