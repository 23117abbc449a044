-- What a command is told to do, as values.
use Rattle.std.specs.Prelude.{ℕ, ℤ, Bool, false, List, Option}
use Rattle.hum_choices.specs.Extract.{Choice, choice_of}
use Rattle.hum_choices.specs.Timebase.{Pace, pace_of}
use Rattle.hum_choices.specs.Cleave as cleave
use Rattle.hum_choices.specs.declared.rid.RidOptions.{RidOptions}
use Rattle.hum_choices.specs.declared.ditto.DittoOptions.{DittoOptions}
use Rattle.hum_choices.specs.declared.context.Span.{Span as WrittenSpan}
use Rattle.hum_choices.specs.declared.context.Span.TheVariants as span
use Rattle.hum_choices.specs.declared.semits.SemitsOptions.{SemitsOptions}
use Rattle.hum_choices.specs.declared.mint.MintOptions.{MintOptions}
use Rattle.hum_choices.specs.declared.yank.Markers.{Markers as WrittenMarkers}
use Rattle.hum_choices.specs.declared.yank.Markers.TheVariants as markers
use Rattle.hum_choices.specs.declared.yank.YankRange.{YankRange}
use Rattle.hum_choices.specs.declared.CommandOptions.{CommandOptions}
use Rattle.hum_choices.specs.declared.CommandOptions.TheVariants as told

-- so many tokens, or those from a match of one pattern through the next of another
pub data Span : Type 0 where
  Number : ℕ → Span
  Phrase : List ℕ → List ℕ → Span

-- where passages begin, and how they are numbered
pub data Markers : Type 0 where
  Lines : Markers
  Numbers : List ℕ → Markers
  Occurrences : List ℕ → Option (List ℕ) → Markers
  Labels : List ℕ → Markers

-- the options of a command
pub data Options : Type 0 where
  Rid : RidOptions → Options
  Extract : Choice → Options
  Ditto : DittoOptions → Options
  Timebase : Pace → Options
  Context : Span → Option (List ℕ) → Options
  Trans : ℤ → ℤ → Options
  Semits : SemitsOptions → Options
  Mint : MintOptions → Options
  Recip : Options
  Yank : Markers → List YankRange → Options
  Cleave : cleave.Options → Options

-- whether it drops all interpretations, and so may give no score
abbrev pub drops_interpretations : Options → Bool
drops_interpretations (Rid options) = options.interpretations
drops_interpretations _ = false

-- What the code's options say, wherever their lists lie.

abbrev pub span_of : WrittenSpan → Span
span_of (span.Number count) = Number count.number
span_of (span.Phrase begin end) = Phrase begin end

abbrev pub markers_of : WrittenMarkers → Markers
markers_of markers.Lines = Lines
markers_of (markers.Numbers pattern) = Numbers pattern
markers_of (markers.Occurrences begins ends) = Occurrences begins ends
markers_of (markers.Labels text) = Labels text.items

abbrev pub options_of : CommandOptions → Options
options_of (told.Rid options) = Rid options
options_of (told.Extract options) = Extract (choice_of options)
options_of (told.Ditto options) = Ditto options
options_of (told.Timebase options) = Timebase (pace_of options)
options_of (told.Context options) = Context (span_of options.span) options.omit
options_of (told.Trans options) = Trans options.steps options.semitones
options_of (told.Semits options) = Semits options
options_of (told.Mint options) = Mint options
options_of (told.Recip options) = Recip
options_of (told.Yank options) = Yank (markers_of options.markers) options.ranges.items
options_of (told.Cleave options) = Cleave options
