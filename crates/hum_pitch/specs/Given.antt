-- What calls on pitches answer.
use Rattle.std.specs.Prelude.{◌≡◌, pos, negsuc, Result, Ok, Err}
use Rattle.hum_pitch.specs.Pitch.{Spelled, IsAlteration, IsOutside}
use Rattle.hum_pitch.specs.declared.pitch.Pitch.{Pitch}
use Rattle.hum_pitch.specs.declared.pitch.SpelledNote.{SpelledNote}
use Rattle.hum_pitch.specs.declared.pitch.PitchFault.{PitchFault}
use Rattle.hum_pitch.specs.declared.pitch.PitchFault.TheVariants.{TR1, TR2}

abbrev pub spelled : Pitch → Spelled
spelled p = record { step = p.step; octave = p.octave; alteration = p.alteration }

abbrev pub noted : SpelledNote → Spelled
noted n = record { step = n.step; octave = n.octave; alteration = n.alteration }

-- A note is given where it can be spelled. Over seven sharps or flats are refused first, then an
-- octave beyond those that have a spelling.
abbrev pub Answers : Spelled → Result Pitch PitchFault → Type 0
Answers note (Ok q) = spelled q ≡ note
Answers note (Err TR1) = IsOutside (negsuc 6) note.alteration (pos 7)
Answers note (Err TR2) =
    IsAlteration note.alteration × IsOutside (negsuc 3) note.octave (pos 11)
