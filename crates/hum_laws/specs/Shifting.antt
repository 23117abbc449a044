-- What semits makes of notes that sound some semitones higher.
use Rattle.std.specs.Prelude.{ℕ, ℤ, ◌+ℤ◌, Bool, ◌&&◌, List, if◌then◌else◌}
use Rattle.std.specs.Prelude.{Option, None, Some, Result, Ok, Err}
use Rattle.std.specs.Fmt.{signed_decimal}
use lib.Chars.{codes}
use Rattle.hum_pitch.specs.Pitch.{Spelled, semitones}
use Rattle.hum_kern.specs.declared.KernFault.{KernFault}
use Rattle.hum_kern.specs.Note.{Reading, note}
use Rattle.hum_stage.specs.declared.faults.Rule.{Rule}
use Rattle.hum_tones.specs.Faults.{rule_of}

abbrev pub higher_pitch : ℤ → Bool → Option Spelled → Option (List ℕ)
higher_pitch m left_out (Some pitch) =
    if left_out then None else Some (signed_decimal (semitones pitch +ℤ m))
higher_pitch m left_out None = None

abbrev pub higher_reading : ℤ → Bool → Reading → Option (List ℕ)
higher_reading m ties reading =
    if reading.rest then Some (codes "r")
    else higher_pitch m (ties && reading.continued) reading.pitch

abbrev pub higher_by : ℤ → Bool → Result Reading KernFault → Result (Option (List ℕ)) Rule
higher_by m ties (Ok reading) = Ok (higher_reading m ties reading)
higher_by m ties (Err fault) = Err (rule_of fault)

-- what semits gives of a part, with m added to the number of a pitch
abbrev pub semits_higher : ℤ → Bool → List ℕ → Result (Option (List ℕ)) Rule
semits_higher m ties part = higher_by m ties (note part)
