-- What is heard of a token, as it is kept.
use Rattle.std.specs.Prelude.{◌||◌, Option, None, Some, option_map, Result, Ok, Err, List}
use Rattle.hum_pitch.specs.Given.{spelled}
use Rattle.hum_kern.specs.Note.{Reading}
use Rattle.hum_stage.specs.declared.faults.Rule.{Rule}
use Rattle.hum_tones.specs.declared.hearing.Tone.{Tone as KeptTone}
use Rattle.hum_tones.specs.declared.hearing.TokenTone.{TokenTone as Kept}
use Rattle.hum_tones.specs.Mint.{Tone, TokenTone, heard, or_tone}

abbrev pub tone_of : KeptTone → Tone
tone_of kept = record { pitch = spelled kept.pitch; continued = kept.continued }

abbrev pub hearing : Kept → TokenTone
hearing kept = record { tone = option_map tone_of kept.tone; rest = kept.rest }

-- what an answer says was heard
abbrev pub heard_by : Result Kept Rule → Result TokenTone Rule
heard_by (Ok kept) = Ok (hearing kept)
heard_by (Err rule) = Err rule

abbrev pub heard_in : Result (List Reading) Rule → Result TokenTone Rule
heard_in (Ok readings) = Ok (heard readings)
heard_in (Err rule) = Err rule

abbrev pub first_of : Option Tone → Option Tone → Option Tone
first_of (Some tone) other = Some tone
first_of None other = other

-- what is heard with one part more behind
abbrev pub heard_with : TokenTone → Reading → TokenTone
heard_with so_far reading = record {
  tone = first_of so_far.tone (or_tone reading.pitch reading.continued None);
  rest = so_far.rest || reading.rest;
}
