-- What the command semits makes of a token: the semitones of its notes.
use Rattle.std.specs.Prelude.{ℕ, Bool, ◌&&◌, List, if◌then◌else◌}
use Rattle.std.specs.Prelude.{Option, None, Some, Result, Ok, Err}
use Rattle.std.specs.Fmt.{signed_decimal}
use lib.Chars.{codes}
use Rattle.hum_pitch.specs.Pitch.{Spelled, semitones}
use Rattle.hum_kern.specs.declared.KernFault.{KernFault}
use Rattle.hum_kern.specs.Note.{Reading, note}
use Rattle.hum_stage.specs.declared.faults.Rule.{Rule}
use Rattle.hum_tones.specs.Faults.{rule_of}

-- The semitones of a note above middle c. Where ties are left out, a note that goes on or ends
-- one gives nothing.
abbrev pub of_pitch : Bool → Option Spelled → Option (List ℕ)
of_pitch left_out (Some pitch) = if left_out then None else Some (signed_decimal (semitones pitch))
of_pitch left_out None = None

-- what a part gives: the semitones of a note, r for a rest, tied or not
abbrev pub of_reading : Bool → Reading → Option (List ℕ)
of_reading ties reading =
    if reading.rest then Some (codes "r") else of_pitch (ties && reading.continued) reading.pitch

abbrev pub by_reading : Bool → Result Reading KernFault → Result (Option (List ℕ)) Rule
by_reading ties (Ok reading) = Ok (of_reading ties reading)
by_reading ties (Err fault) = Err (rule_of fault)

abbrev pub semits_of : Bool → List ℕ → Result (Option (List ℕ)) Rule
semits_of ties part = by_reading ties (note part)
