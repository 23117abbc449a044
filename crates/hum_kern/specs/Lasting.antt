-- How long a subtoken lasts: its duration, and the text that says it.
use Rattle.std.specs.Prelude.{◌≡◌, ℕ, List, Option, None, Some, Result, Ok, Err, IfSome}
use Rattle.hum_frac.specs.Ratio.{Ratio}
use Rattle.hum_pitch.specs.declared.pitch.Pitch.{Pitch}
use Rattle.hum_kern.specs.declared.KernFault.{KernFault}
use Rattle.hum_kern.specs.declared.Length.{Length}
use Rattle.hum_kern.specs.declared.notes.Note.{Note}
use Rattle.hum_kern.specs.Duration.{duration}
use Rattle.hum_kern.specs.NoteParts.{between, replaced}

-- a duration, and the bytes that it was read from
pub record Lasting : Type 0 where
  pub value : Ratio
  pub text : List ℕ

abbrev pub lasting_by : Option Ratio → List ℕ → Option Lasting
lasting_by (Some value) text = Some (record { value = value; text = text })
lasting_by None text = None

abbrev pub lasting_in : List ℕ → Result Length KernFault → Result (Option Lasting) KernFault
lasting_in bytes (Ok found) = Ok (lasting_by found.value (between found.start found.end bytes))
lasting_in bytes (Err fault) = Err fault

-- the duration of a subtoken with its text, nothing where it has none, or K3
abbrev pub lasting : List ℕ → Result (Option Lasting) KernFault
lasting bytes = lasting_in bytes (duration bytes)

-- Whatever pitch is written in the place of the one that was read, the duration stays as it is.
abbrev pub KeepsDuration : List ℕ → Note → Type 0
KeepsDuration bytes found = IfSome found.pitch (λ _. (pitch : Pitch)
    → lasting (replaced bytes found pitch) ≡ lasting bytes)
