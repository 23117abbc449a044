-- The command, by its options.
use Rattle.std.specs.Prelude.{ℕ}
use Rattle.hum_pattern.specs.Meaning.{matched, first_end}
pub use Rattle.hum_pattern.specs.Meaning.{matched_by}
use Rattle.hum_words.specs.declared.commands.Command.TheVariants.{Yank}
use Rattle.hum_stage.specs.Meaning.{Meaning}
use Rattle.hum_stage.specs.Look.{looking}
use Rattle.hum_choices.specs.declared.yank.Markers.{Markers}
use Rattle.hum_choices.specs.declared.yank.Markers.TheVariants.{Lines as ByLine}
use Rattle.hum_choices.specs.declared.yank.Markers.TheVariants.{Numbers as ByNumber}
use Rattle.hum_choices.specs.declared.yank.Markers.TheVariants.{Occurrences as ByOccurrence}
use Rattle.hum_choices.specs.declared.yank.Markers.TheVariants.{Labels as ByLabel}
use Rattle.hum_choices.specs.declared.yank.YankOptions.{YankOptions}
use Rattle.hum_yank.specs.Passages.{Form, Lines, Numbers, Occurrences, Labels}
use Rattle.hum_yank.specs.Yank.{Choice, yank}
use Rattle.hum_stage.specs.declared.TheConstants.{MOST_WAITING}

abbrev pub form_of : Markers → Form
form_of ByLine = Lines
form_of (ByNumber pattern) = Numbers (first_end pattern)
form_of (ByOccurrence begins ends) = Occurrences (matched begins) (matched_by ends)
form_of (ByLabel name) = Labels name.items

abbrev pub choice_of : YankOptions → Choice
choice_of options = record { form = form_of options.markers; ranges = options.ranges.items }

-- what the stage of this number means
abbrev pub meaning : ℕ → YankOptions → Meaning
meaning stage options = looking MOST_WAITING stage Yank (yank (choice_of options))
