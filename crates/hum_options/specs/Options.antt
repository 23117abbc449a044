-- The options of each command, and what they mean together.
use Rattle.std.specs.Prelude.{ℕ, Bool, ◌&&◌, ◌==◌, if◌then◌else◌, List, [], ◌∷◌, map, Option, None, Some, unwrap_or}
use Rattle.std.specs.List.{list_any, find}
use Rattle.std.specs.Option.{option_map, option_or}
use Rattle.std.specs.Str.{bytes_eq}
use lib.Chars.{codes}
use Rattle.hum_choices.specs.Extract as choice
use Rattle.hum_choices.specs.Extract.{range_of}
use Rattle.hum_choices.specs.Cleave as cleave
use Rattle.hum_choices.specs.Timebase.{Pace}
use Rattle.hum_choices.specs.Options.{Span, Number, Phrase, Markers, Lines, Numbers, Occurrences, Labels, Options}
use Rattle.hum_choices.specs.Options.{Extract, Ditto, Timebase, Context, Trans, Semits, Mint, Recip, Yank, Cleave}
use Rattle.hum_choices.specs.declared.ditto.DittoOptions.{DittoOptions}
use Rattle.hum_choices.specs.declared.mint.MintOptions.{MintOptions}
use Rattle.hum_choices.specs.declared.semits.SemitsOptions.{SemitsOptions}
use Rattle.hum_words.specs.declared.commands.Command.{Command}
use Rattle.hum_words.specs.declared.commands.Command.TheVariants as command
use Rattle.hum_options.specs.declared.options.ValueKind.{ValueKind}
use Rattle.hum_options.specs.declared.options.ValueKind.TheVariants.{Alone, Fields, Names, Name, Text, Ranges, Label}
use Rattle.hum_options.specs.declared.options.ValueKind.TheVariants.{Pattern, Count, Steps, Semitones, Duration}
use Rattle.hum_options.specs.declared.options.CommandOption.{CommandOption}
use Rattle.hum_options.specs.Given.{GivenOf, Given, letter, has, get}

-- an option, by the text of its letter and the kind of its value
abbrev pub takes : List ℕ → ValueKind → ℕ × ValueKind
takes text kind = (letter text, kind)

-- the options of a command; those of rid are words of letters
abbrev pub table : Command → List (ℕ × ValueKind)
table command.Read = []
table command.Assemble = []
table command.Rid = []
table command.Extract = takes (codes "f") Fields ∷ takes (codes "i") Names ∷ []
table command.Ditto = takes (codes "s") Pattern ∷ takes (codes "p") Alone ∷ []
table command.Timebase = takes (codes "t") Duration ∷ []
table command.Context =
    takes (codes "n") Count ∷ takes (codes "b") Pattern ∷ takes (codes "e") Pattern
    ∷ takes (codes "o") Pattern ∷ []
table command.Trans = takes (codes "d") Steps ∷ takes (codes "c") Semitones ∷ []
table command.Semits = takes (codes "x") Alone ∷ takes (codes "t") Alone ∷ []
table command.Mint =
    takes (codes "a") Alone ∷ takes (codes "d") Alone ∷ takes (codes "b") Pattern ∷ []
table command.Recip = []
table command.Yank =
    takes (codes "l") Alone ∷ takes (codes "n") Pattern ∷ takes (codes "o") Pattern
    ∷ takes (codes "e") Pattern ∷ takes (codes "s") Label ∷ takes (codes "r") Ranges ∷ []
table command.Cleave =
    takes (codes "i") Name ∷ takes (codes "o") Name ∷ takes (codes "d") Text ∷ []

-- groups of options, by their letters: a stage has at most one of each
abbrev pub groups : Command → List (List ℕ)
groups command.Extract = codes "fi" ∷ []
groups command.Context = codes "nb" ∷ codes "ne" ∷ []
groups command.Yank = codes "lnos" ∷ codes "lnse" ∷ []
groups _ = []

-- a word that is `-` and the option's letter
abbrev pub is_spelled : List ℕ → CommandOption → Bool
is_spelled word option = bytes_eq word (45 ∷ option.letter ∷ [])

abbrev pub option : ℕ × ValueKind → CommandOption
option entry = record { letter = entry.0; kind = entry.1 }

-- the option that a word is, if it is one of the command
abbrev pub option_of : Command → List ℕ → Option CommandOption
option_of command word = find (is_spelled word) (map option (table command))

abbrev pub are_in : ℕ → ℕ → List ℕ → Bool
are_in a b group = list_any (λ c. c == a) group && list_any (λ c. c == b) group

-- two letters that stand in one group
abbrev pub excludes : Command → ℕ → ℕ → Bool
excludes command a b = list_any (are_in a b) (groups command)

-- what two values make, if both are there
abbrev pub both : {A B C : Type 0} → (A → B → C) → Option A → Option B → Option C
both f None second = None
both f (Some a) second = option_map (f a) second

-- `-f`, or `-i`
abbrev pub choice_meant : {P : Type 0} → List (GivenOf P) → Option choice.Choice
choice_meant given = option_or
    (option_map (λ ranges. choice.Fields (map range_of ranges)) (get Fields (codes "f") given))
    (option_map choice.Names (get Names (codes "i") given))

-- `-n`, or `-b` and `-e`
abbrev pub span_meant : List Given → Option Span
span_meant given = option_or (option_map Number (get Count (codes "n") given))
    (both Phrase (get Pattern (codes "b") given) (get Pattern (codes "e") given))

-- `-l`, or `-n`, or `-o` with `-e` or without, or `-s`
abbrev pub markers_meant : List Given → Option Markers
markers_meant given =
    if has (codes "l") given then Some Lines
    else option_or (option_map Numbers (get Pattern (codes "n") given))
    (option_or (option_map (λ begins. Occurrences begins (get Pattern (codes "e") given))
    (get Pattern (codes "o") given)) (option_map Labels (get Label (codes "s") given)))

-- `-d`, or a space
abbrev pub separator_meant : {P : Type 0} → List (GivenOf P) → List ℕ
separator_meant given = unwrap_or (get Text (codes "d") given) (codes " ")

-- `-i` and `-o`, and `-d` or a space
abbrev pub cleave_meant : {P : Type 0} → List (GivenOf P) → Option cleave.Options
cleave_meant given =
    both (λ name new_name. record {
      name = name;
      new_name = new_name;
      separator = separator_meant given;
    }) (get Name (codes "i") given) (get Name (codes "o") given)

abbrev pub ditto_meant : List Given → DittoOptions
ditto_meant given =
    record { skip = get Pattern (codes "s") given; parentheses = has (codes "p") given }

abbrev pub mint_meant : List Given → MintOptions
mint_meant given = record {
  signless = has (codes "a") given;
  sizeonly = has (codes "d") given;
  breaks = get Pattern (codes "b") given;
}

-- `-x`, and `-t` or not
abbrev pub semits_meant : {P : Type 0} → List (GivenOf P) → Option SemitsOptions
semits_meant given =
    if has (codes "x") given then Some (record { ties_left_out = has (codes "t") given }) else None

-- `-t`
abbrev pub pace_meant : {P : Type 0} → List (GivenOf P) → Option Pace
pace_meant given = get Duration (codes "t") given

-- `-d` and `-c`
abbrev pub trans_meant : {P : Type 0} → List (GivenOf P) → Option Options
trans_meant given = both Trans (get Steps (codes "d") given) (get Semitones (codes "c") given)

-- What the options of any command but cleave mean together. The words of rid are no such options.
abbrev pub meant_by_kind : Command → List Given → Option Options
meant_by_kind command.Extract given = option_map Extract (choice_meant given)
meant_by_kind command.Ditto given = Some (Ditto (ditto_meant given))
meant_by_kind command.Timebase given = option_map Timebase (pace_meant given)
meant_by_kind command.Context given =
    option_map (λ span. Context span (get Pattern (codes "o") given)) (span_meant given)
meant_by_kind command.Trans given = trans_meant given
meant_by_kind command.Semits given = option_map Semits (semits_meant given)
meant_by_kind command.Mint given = Some (Mint (mint_meant given))
meant_by_kind command.Recip given = Some Recip
meant_by_kind command.Yank given = both Yank (markers_meant given) (get Ranges (codes "r") given)
meant_by_kind _ given = None

-- What the options that were given mean together: nothing where one that the command requires is
-- missing.
abbrev pub meant : Command → List Given → Option Options
meant command.Cleave given = option_map Cleave (cleave_meant given)
meant kind given = meant_by_kind kind given
