-- What the command trans makes of a token: each pitch in it some steps and some semitones away.
use Rattle.std.specs.Prelude.{ℕ, ℤ, pos, negsuc, nat_le, Bool, not, List, ◌++◌, take, drop}
use Rattle.std.specs.Prelude.{Option, None, Some, Result, Ok, Err, if◌then◌else◌}
use Rattle.hum_pitch.specs.Pitch.{Spelled, away}
use Rattle.hum_pitch.specs.Spelling.{spelling}
use Rattle.hum_kern.specs.declared.KernFault.{KernFault}
use Rattle.hum_kern.specs.Note.{Reading, note}
use Rattle.hum_stage.specs.declared.faults.Rule.{Rule}
use Rattle.hum_stage.specs.declared.faults.Rule.TheVariants.{TR1, TR2}
use Rattle.hum_tones.specs.Faults.{rule_of}
use Rattle.hum_tones.specs.Subtokens.{rewritten}

-- at most seven sharps or flats
abbrev pub is_alteration : ℤ → Bool
is_alteration (pos sharps) = nat_le sharps 7
is_alteration (negsuc flats) = nat_le flats 6

-- octaves from -4 to 11
abbrev pub is_octave : ℤ → Bool
is_octave (pos octave) = nat_le octave 11
is_octave (negsuc below) = nat_le below 3

-- a note, where it can be spelled
abbrev pub if_spelled : Spelled → Result Spelled Rule
if_spelled there =
    if not (is_alteration there.alteration) then Err TR1
    else if not (is_octave there.octave) then Err TR2
    else Ok there

-- a part with a pitch in the place of its own
abbrev pub put : List ℕ → Reading → Result Spelled Rule → Result (Option (List ℕ)) Rule
put part reading (Ok there) =
    Ok (Some (take reading.start part ++ (spelling there ++ drop reading.end part)))
put part reading (Err rule) = Err rule

-- a part whose pitch was read, if it has one; another stays as it is
abbrev pub moved : ℤ → ℤ → List ℕ → Reading → Option Spelled → Result (Option (List ℕ)) Rule
moved n m part reading (Some pitch) = put part reading (if_spelled (away n m pitch))
moved n m part reading None = Ok (Some part)

abbrev pub moved_as_read : ℤ → ℤ → List ℕ → Result Reading KernFault
    → Result (Option (List ℕ)) Rule
moved_as_read n m part (Ok reading) = moved n m part reading reading.pitch
moved_as_read n m part (Err fault) = Err (rule_of fault)

-- A part with its pitch n steps and m semitones away.
abbrev pub transposed_part : ℤ → ℤ → List ℕ → Result (Option (List ℕ)) Rule
transposed_part n m part = moved_as_read n m part (note part)

-- what a token becomes
abbrev pub transposed : ℤ → ℤ → List ℕ → Result (List ℕ) Rule
transposed n m = rewritten (transposed_part n m)
