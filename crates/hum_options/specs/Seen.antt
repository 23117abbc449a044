-- What contracts see of options and words.
use Rattle.std.specs.Prelude.{◌≡◌, ℕ, List, [], ◌∷◌, None, Some, Result, Ok, Err}
use Rattle.hum_score.specs.Texts.{texts}
use Rattle.hum_words.specs.declared.commands.Command.{Command}
use Rattle.hum_words.specs.Pieces.{Item, items_of}
use Rattle.hum_words.specs.Pieces as item
use Rattle.hum_words.specs.declared.cutting.Piece.{Piece}
use Rattle.hum_choices.specs.Timebase.{pace_of}
use Rattle.hum_choices.specs.Options.{options_of}
use Rattle.hum_options.specs.declared.options.ValueKind.{ValueKind}
use Rattle.hum_options.specs.declared.values.Value.{Value as WrittenValue}
use Rattle.hum_options.specs.declared.values.Value.TheVariants as value
use Rattle.hum_options.specs.declared.grammar.ValueError.{ValueError}
use Rattle.hum_options.specs.declared.grammar.ValueError.TheVariants.{Grammar, Pattern as Refused, Memory as NoMemory}
use Rattle.hum_options.specs.declared.given.GivenOption.{GivenOption}
use Rattle.hum_choices.specs.declared.CommandOptions.{CommandOptions}
use Rattle.hum_options.specs.declared.reading.Turn.{Turn}
use Rattle.hum_options.specs.declared.faults.OptionError.{OptionError}
use Rattle.hum_options.specs.declared.faults.OptionError.TheVariants as failed
use Rattle.hum_options.specs.declared.faults.OptionRule.TheVariants.{N10, N12}
use Rattle.hum_options.specs.Values.{ValueOf, Nothing, Fields, Names, Name, Text, Ranges, Label, Pattern, Count, Steps}
use Rattle.hum_options.specs.Values.{Semitones, Duration, value_of, IsSound, IsRefused}
use Rattle.hum_options.specs.Given.{Given, GivenOf}
use Rattle.hum_options.specs.Answers.{Word, Answer, Answers}

-- a value, wherever its list or its text lies
abbrev pub seen : {P : Type 0} → WrittenValue P → ValueOf P
seen value.Nothing = Nothing
seen (value.Fields ranges) = Fields ranges.items
seen (value.Names names) = Names (texts names.items)
seen (value.Name name) = Name name.text.items
seen (value.Text separator) = Text separator.text.items
seen (value.Ranges ranges) = Ranges ranges.items
seen (value.Label text) = Label text.items
seen (value.Pattern pattern) = Pattern pattern
seen (value.Count count) = Count count.number
seen (value.Steps steps) = Steps steps.number
seen (value.Semitones semitones) = Semitones semitones.number
seen (value.Duration options) = Duration (pace_of options)

-- what was read is the value of the kind that the text is, unless memory ran out
abbrev pub GivesValue : ValueKind → List ℕ → Result (WrittenValue (List ℕ)) ValueError → Type 0
GivesValue kind text (Ok value) = (value_of kind text ≡ Some (seen value)) × IsSound (seen value)
GivesValue kind text (Err Grammar) = value_of kind text ≡ None
GivesValue kind text (Err (Refused refusal)) =
    (value_of kind text ≡ Some (Pattern text)) × IsRefused refusal text
GivesValue kind text (Err NoMemory) = Unit {0}

abbrev pub given_of : {P : Type 0} → GivenOption (WrittenValue P) → GivenOf P
given_of given = record { letter = given.letter; value = seen given.value }

-- the words up to the next bar, with their numbers
abbrev pub words_before_bar : List Item → List Word
words_before_bar [] = []
words_before_bar (item.Word n word ∷ items) = (n, word) ∷ words_before_bar items
words_before_bar (item.Bar n ∷ items) = []

abbrev pub words_of : List Piece → List Word
words_of pieces = words_before_bar (items_of pieces)

-- What was answered is a lawful answer, unless memory ran out.
abbrev pub Tells : (Answer → Type 0) → Result CommandOptions OptionError → Type 0
Tells Lawful (Ok options) = Lawful (Ok (options_of options))
Tells Lawful (Err (failed.Fault found)) = Lawful (Err found)
Tells Lawful (Err failed.Memory) = Unit {0}

-- Each lawful answer behind a word is one in front of it, and so is a fault that was found.
abbrev pub GoesOn : (Answer → Type 0) → (Turn → Answer → Type 0) → Result Turn OptionError → Type 0
GoesOn Lawful Behind (Ok turn) = (answer : Answer) → Behind turn answer → Lawful answer
GoesOn Lawful Behind (Err (failed.Fault found)) = Lawful (Err found)
GoesOn Lawful Behind (Err failed.Memory) = Unit {0}

-- The same of a word that is taken, whatever words follow and wherever their command stands.
abbrev pub Takes : Command → ℕ → List ℕ → List Given → Turn → List Given → Result Turn OptionError → Type 0
Takes command number word before turn after result =
    (n : ℕ) (words : List Word)
    → GoesOn (Answers command n before turn ((number, word) ∷ words))
    (λ next. Answers command n after next words) result

-- the fault of a value that is word n
abbrev pub value_fault : ℕ → ValueError → OptionError
value_fault n Grammar = failed.Fault (record { word = n; rule = N10 })
value_fault n (Refused refusal) = failed.Fault (record { word = n; rule = N12 refusal })
value_fault n NoMemory = failed.Memory
