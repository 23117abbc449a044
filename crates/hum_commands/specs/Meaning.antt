-- What commands mean.
use Rattle.std.specs.Prelude.{◌≡◌, ℕ, false}
use Rattle.hum_words.specs.declared.commands.Command.TheVariants as name
use Rattle.hum_stage.specs.declared.TheConstants.{MOST_WAITING}
use Rattle.hum_stage.specs.Meaning.{Meaning}
use Rattle.hum_stage.specs.Decided.{at_once}
use Rattle.hum_stage.specs.Look.{looking}
use Rattle.hum_pattern.specs.Meaning.{matched, matched_by, first_end}
use Rattle.hum_rid.specs.Rid as rid
use Rattle.hum_extract.specs.Extract.{extract}
use Rattle.hum_ditto.specs.Ditto as ditto
use Rattle.hum_timebase.specs.Timebase as timebase
use Rattle.hum_context.specs.Context.{Extent, First, Between, context}
use Rattle.hum_cells.specs.Rewriting as cells
use Rattle.hum_tones.specs.Commands as tones
use Rattle.hum_yank.specs.Passages as passages
use Rattle.hum_yank.specs.Yank.{yank}
use Rattle.hum_cleave.specs.Cleave as cleave
use Rattle.hum_choices.specs.declared.CommandOptions.{CommandOptions}
use Rattle.hum_choices.specs.declared.CommandOptions.TheVariants as told
use Rattle.hum_choices.specs.Options.{Span, Number, Phrase, Markers, Lines, Numbers, Occurrences}
use Rattle.hum_choices.specs.Options.{Labels, Options, Rid, Extract, Ditto, Timebase, Context, Trans}
use Rattle.hum_choices.specs.Options.{Semits, Mint, Recip, Yank, Cleave}
use Rattle.hum_choices.specs.Options.{options_of, drops_interpretations}

-- so many tokens, or those from a match through the next
abbrev pub extent_of : Span → Extent
extent_of (Number n) = First n
extent_of (Phrase begin end) = Between (matched begin) (matched end)

-- what begins passages
abbrev pub form_of : Markers → passages.Form
form_of Lines = passages.Lines
form_of (Numbers pattern) = passages.Numbers (first_end pattern)
form_of (Occurrences begins ends) = passages.Occurrences (matched begins) (matched_by ends)
form_of (Labels label) = passages.Labels label

-- what the command of the stage of this number means, by its options
abbrev pub means : ℕ → Options → Meaning
means n (Rid options) = rid.meaning n options
means n (Extract choice) = at_once n name.Extract (extract choice)
means n (Ditto options) = ditto.meaning n options
means n (Timebase pace) = timebase.meaning n pace
means n (Context span omit) =
    looking MOST_WAITING n name.Context
    (context (record { extent = extent_of span; omits = matched_by omit }))
means n (Trans steps semitones) = cells.meaning n name.Trans (tones.trans steps semitones)
means n (Semits options) = tones.meaning_of_semits n options
means n (Mint options) = tones.meaning_of_mint n options
means n Recip = tones.meaning_of_recip n (record {})
means n (Yank markers ranges) =
    looking MOST_WAITING n name.Yank (yank (record { form = form_of markers; ranges = ranges }))
means n (Cleave options) = cleave.meaning n options

-- the same, by what it is told to do
abbrev pub meaning : ℕ → CommandOptions → Meaning
meaning n options = means n (options_of options)

-- Of scores it makes scores: all commands do, but rid where it drops all interpretations.
abbrev pub MakesScores : CommandOptions → Type 0
MakesScores options = drops_interpretations (options_of options) ≡ false

-- how many records behind it a record may wait for
abbrev pub most_lag : CommandOptions → ℕ
most_lag (told.Context options) = MOST_WAITING
most_lag (told.Yank options) = MOST_WAITING
most_lag _ = 0
