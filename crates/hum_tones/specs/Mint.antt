-- What the command mint makes of a token: the interval from the note before.
use Rattle.std.specs.Prelude.{ℕ, Bool, true, false, not, ◌&&◌, ◌||◌, ◌-ℤ◌}
use Rattle.std.specs.Prelude.{List, [], ◌∷◌, ◌++◌, Option, None, Some, Result, Ok, Err}
use Rattle.std.specs.Prelude.{if◌then◌else◌}
use Rattle.std.specs.List.{list_any, find}
use lib.Chars.{codes}
use Rattle.hum_record.specs.Contents.{is_filled, is_barline}
use Rattle.hum_path.specs.Chains.{reach}
use Rattle.hum_pattern.specs.Meaning.{matched}
use Rattle.hum_pitch.specs.Pitch.{Spelled, step_number, semitones}
use Rattle.hum_pitch.specs.Spelling.{spelling}
use Rattle.hum_pitch.specs.Intervals.{named}
use Rattle.hum_kern.specs.declared.KernFault.{KernFault}
use Rattle.hum_kern.specs.Note.{Reading, note}
use Rattle.hum_stage.specs.declared.faults.Rule.{Rule}
use Rattle.hum_choices.specs.declared.mint.MintOptions.{MintOptions}
use Rattle.hum_tones.specs.Faults.{rule_of}
use Rattle.hum_tones.specs.Subtokens.{subtokens}

-- what a part and those behind it say; the first that is refused decides
abbrev pub with_reading : Result Reading KernFault → Result (List Reading) Rule
    → Result (List Reading) Rule
with_reading (Ok reading) (Ok readings) = Ok (reading ∷ readings)
with_reading (Ok reading) (Err rule) = Err rule
with_reading (Err fault) others = Err (rule_of fault)

abbrev pub readings_of : List (List ℕ) → Result (List Reading) Rule
readings_of [] = Ok []
readings_of (part ∷ parts) = with_reading (note part) (readings_of parts)

-- What the parts of a token say, or the rule of the first that is refused.
abbrev pub readings : List ℕ → Result (List Reading) Rule
readings token = readings_of (subtokens token)

-- A note of a token: its pitch, and whether its tie goes on or ends.
pub record Tone : Type 0 where
  pub pitch : Spelled
  pub continued : Bool

abbrev pub or_tone : Option Spelled → Bool → Option Tone → Option Tone
or_tone (Some pitch) continued others = Some (record { pitch = pitch; continued = continued })
or_tone None continued others = others

-- the first that has a pitch
abbrev pub leading : List Reading → Option Tone
leading [] = None
leading (reading ∷ readings) = or_tone reading.pitch reading.continued (leading readings)

-- what is heard of a token: its first note, and whether it has a rest
pub record TokenTone : Type 0 where
  pub tone : Option Tone
  pub rest : Bool

abbrev pub heard : List Reading → TokenTone
heard readings = record {
  tone = leading readings;
  rest = list_any (λ reading. reading.rest) readings;
}

-- the interval from the note before, or the pitch in brackets where there is none
abbrev pub approached : Bool → Bool → Option Spelled → Spelled → List ℕ
approached signless sizeonly None pitch = codes "[" ++ (spelling pitch ++ codes "]")
approached signless sizeonly (Some before) pitch =
    named signless sizeonly (step_number pitch -ℤ step_number before)
    (semitones pitch -ℤ semitones before)

-- What a token becomes by what is heard of it and the note before. Where a tie goes on there is no
-- new note.
abbrev pub told : Bool → Bool → Option Spelled → Option Tone → Bool → List ℕ
told signless sizeonly before (Some tone) rest =
    if tone.continued then codes "."
    else approached signless sizeonly before tone.pitch
told signless sizeonly before None rest = if rest then codes "r" else codes "."

abbrev pub told_of : Bool → Bool → Option Spelled → Result (List Reading) Rule
    → Result (List ℕ) Rule
told_of signless sizeonly before (Ok readings) =
    Ok (told signless sizeonly before (heard readings).tone (heard readings).rest)
told_of signless sizeonly before (Err rule) = Err rule

-- What a token becomes, by the note before it.
abbrev pub minted : Bool → Bool → Option Spelled → List ℕ → Result (List ℕ) Rule
minted signless sizeonly before token = told_of signless sizeonly before (readings token)

-- the pitch that is remembered of a note: none where its tie goes on
abbrev pub new_pitch : Option Tone → Option Spelled
new_pitch (Some tone) = if tone.continued then None else Some tone.pitch
new_pitch None = None

abbrev pub pitch_in : Result (List Reading) Rule → Option Spelled
pitch_in (Ok readings) = new_pitch (leading readings)
pitch_in (Err rule) = None

-- What is remembered of a cell. A barline is no note.
abbrev pub remembered_of : List ℕ → Option Spelled
remembered_of token =
    if is_filled token && not (is_barline token) then pitch_in (readings token) else None

-- whether the note before is forgotten behind a cell: its token, which may be a barline, has a match
abbrev pub is_break : Option (List ℕ) → List ℕ → Bool
is_break None token = false
is_break (Some pattern) token = is_filled token && matched pattern token

abbrev pub is_some : Option Spelled → Bool
is_some (Some pitch) = true
is_some None = false

-- whether a cell settles what is remembered behind it
abbrev pub settles : Option (List ℕ) → List ℕ → Bool
settles breaks token = is_break breaks token || is_some (remembered_of token)

-- what is remembered behind such a cell: a break ends after itself
abbrev pub settled : Option (List ℕ) → Option (List ℕ) → Option Spelled
settled breaks None = None
settled breaks (Some token) = if is_break breaks token then None else remembered_of token

-- The note before, by the cells above, the nearest first: of those in reach the nearest that has a
-- note to remember, unless a break stands there or nearer.
abbrev pub note_before : Option (List ℕ) → List (List ℕ) → Option Spelled
note_before breaks above = settled breaks (find (settles breaks) (reach above))

-- What a token becomes, by the cells above it.
abbrev pub minted_after : MintOptions → List (List ℕ) → List ℕ → Result (List ℕ) Rule
minted_after options above token =
    minted options.signless options.sizeonly (note_before options.breaks above) token
