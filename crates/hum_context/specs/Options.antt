-- The command, by its options.
use Rattle.std.specs.Prelude.{ℕ, Bool, List, Option}
use Rattle.hum_pattern.specs.Meaning.{matched, matched_by}
use Rattle.hum_words.specs.declared.commands.Command.TheVariants.{Context}
use Rattle.hum_stage.specs.Meaning.{Meaning}
use Rattle.hum_stage.specs.Look.{looking}
use Rattle.hum_choices.specs.declared.context.Span.{Span}
use Rattle.hum_choices.specs.declared.context.Span.TheVariants.{Number, Phrase}
use Rattle.hum_choices.specs.declared.context.ContextOptions.{ContextOptions}
use Rattle.hum_context.specs.Context.{Choice, Extent, First, Between, context}
use Rattle.hum_stage.specs.declared.TheConstants.{MOST_WAITING}

abbrev pub extent_of : Span → Extent
extent_of (Number count) = First count.number
extent_of (Phrase begin end) = Between (matched begin) (matched end)

-- tokens that match the pattern, if there is one
abbrev pub omits_of : Option (List ℕ) → List ℕ → Bool
omits_of = matched_by

abbrev pub choice_of : ContextOptions → Choice
choice_of options = record { extent = extent_of options.span; omits = omits_of options.omit }

-- what the stage of this number means
abbrev pub meaning : ℕ → ContextOptions → Meaning
meaning stage options = looking MOST_WAITING stage Context (context (choice_of options))
