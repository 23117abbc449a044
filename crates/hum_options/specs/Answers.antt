-- What the words behind a command are answered.
use Rattle.std.specs.Prelude.{◌≡◌, ℕ, Bool, true, false, not, ◌&&◌, ◌||◌, ◌==◌, if◌then◌else◌, ◌⊎◌, List, [], ◌∷◌}
use Rattle.std.specs.Prelude.{◌++◌, map, Option, None, Some, Result, Ok, Err, MatchBool}
use Rattle.std.specs.List.{list_any}
use Rattle.std.specs.Option.{option_or}
use lib.Chars.{codes}
use Rattle.hum_words.specs.declared.commands.Command.{Command}
use Rattle.hum_words.specs.declared.commands.Command.TheVariants as command
use Rattle.hum_options.specs.declared.options.ValueKind.{ValueKind}
use Rattle.hum_options.specs.declared.options.ValueKind.TheVariants as kind
use Rattle.hum_options.specs.declared.options.CommandOption.{CommandOption}
use Rattle.hum_options.specs.declared.faults.PatternRefusal.{PatternRefusal}
use Rattle.hum_options.specs.declared.faults.OptionRule.{OptionRule}
use Rattle.hum_options.specs.declared.faults.OptionRule.TheVariants.{N8, N9, N10, N11, N12}
use Rattle.hum_options.specs.declared.faults.OptionFault.{OptionFault}
use Rattle.hum_options.specs.declared.reading.Turn.{Turn}
use Rattle.hum_options.specs.declared.reading.Turn.TheVariants.{Free, Awaits}
use Rattle.hum_options.specs.Given.{letter, Given, GivenOf}
use Rattle.hum_options.specs.Options.{excludes, option_of, meant}
use Rattle.hum_options.specs.Values.{Value, Nothing, Pattern, value_of, IsRefused, IsSound}
use Rattle.hum_choices.specs.Options.{Options, Rid}
use Rattle.hum_options.specs.Letters.{is_letter_word, has_letter, dropped}

-- a word with its number
abbrev pub Word : Type 0
Word = ℕ × List ℕ

-- options, or the number of a word and the rule that is broken there
abbrev pub Answer : Type 0
Answer = Result Options OptionFault

abbrev pub fault : ℕ → OptionRule → Answer
fault number rule = Err (record { word = number; rule = rule })

-- whether an option that was given has the letter or excludes that of the letter
abbrev pub bars : {P : Type 0} → Command → ℕ → GivenOf P → Bool
bars command b given = given.letter == b || excludes command given.letter b

abbrev pub is_barred : {P : Type 0} → Command → List (GivenOf P) → ℕ → Bool
is_barred command given b = list_any (bars command b) given

abbrev pub unless_barred : {P : Type 0} → Command → List (GivenOf P) → Option CommandOption → Option CommandOption
unless_barred command given None = None
unless_barred command given (Some option) =
    if is_barred command given option.letter then None else Some option

-- the option that a word is, if it may come behind those that were given
abbrev pub next_option : {P : Type 0} → Command → List (GivenOf P) → List ℕ → Option CommandOption
next_option command given word = unless_barred command given (option_of command word)

abbrev pub is_alone : ValueKind → Bool
is_alone kind.Alone = true
is_alone _ = false

-- one more option
abbrev pub with_value : List Given → CommandOption → Value → List Given
with_value given option value = given ++ record { letter = option.letter; value = value } ∷ []

-- What the options mean together, or N9 at the command where one that it requires is missing.
abbrev pub together : ℕ → Option Options → Answer
together n None = fault n N9
together n (Some options) = Ok options

-- An answer at word n, where an option may stand, and how it goes on behind it. A word that is no
-- option, or none that may come, is N8.
abbrev pub AtOption : ℕ → List Given → (List Given → Turn → Type 0) → Option CommandOption
    → Answer → Type 0
AtOption n given Goes None answer = answer ≡ fault n N8
AtOption n given Goes (Some option) answer =
    MatchBool (is_alone option.kind) (Goes (with_value given option Nothing) Free)
    (Goes given (Awaits n option))

-- An answer at word n, where a value stands, and how it goes on behind it. A word that isn't of the
-- value's grammar is N10, and a pattern that is refused is N12.
abbrev pub AtValue : ℕ → (Value → Type 0) → Option Value → Answer → Type 0
AtValue n Goes None answer = answer ≡ fault n N10
AtValue n Goes (Some (Pattern text)) answer = (IsSound (Pattern text) × Goes (Pattern text))
    ⊎ ((refusal : PatternRefusal) × IsRefused refusal text × (answer ≡ fault n (N12 refusal)))
AtValue n Goes (Some value) answer = Goes value

-- The answer to words, behind options that were given, by the first rule that is broken. The
-- command is word n.
unfoldable pub Answers : Command → ℕ → List Given → Turn → List Word → Answer → Type 0
Answers command n given Free [] answer = answer ≡ together n (meant command given)
Answers command n given (Awaits k option) [] answer = answer ≡ fault k N9
Answers command n given Free ((k, word) ∷ words) answer =
    AtOption k given (λ next turn. Answers command n next turn words answer)
    (next_option command given word) answer
Answers command n given (Awaits k option) ((m, text) ∷ words) answer =
    AtValue m (λ value. Answers command n (with_value given option value) Free words answer)
    (value_of option.kind text) answer

-- The fault of a word of rid: it isn't of letters, or it drops all interpretations and the stage isn't
-- the last.
abbrev pub word_fault : Bool → Word → Option OptionFault
word_fault is_last (n, word) =
    if not (is_letter_word word) then Some (record { word = n; rule = N8 })
    else if not is_last && has_letter (letter (codes "I")) word
    then Some (record { word = n; rule = N11 })
    else None

-- the first of them
abbrev pub rid_fault : Bool → List Word → Option OptionFault
rid_fault is_last [] = None
rid_fault is_last (word ∷ words) = option_or (word_fault is_last word) (rid_fault is_last words)

abbrev pub text_of_word : Word → List ℕ
text_of_word (n, word) = word

abbrev pub has_none : List Word → Bool
has_none [] = true
has_none (word ∷ words) = false

-- the first fault, or what the words drop
abbrev pub rid_of : List Word → Option OptionFault → Answer
rid_of words (Some found) = Err found
rid_of words None = Ok (Rid (dropped (map text_of_word words)))

-- The answer to rid's words: no word at all is N9 at the command.
abbrev pub rid_answer : ℕ → Bool → List Word → Answer
rid_answer n is_last words =
    if has_none words then fault n N9 else rid_of words (rid_fault is_last words)

abbrev pub is_rid : Command → Bool
is_rid command.Rid = true
is_rid _ = false

-- The answer to the words behind a command that is word n, by whether its stage is the plan's last.
abbrev pub IsAnswer : Command → ℕ → Bool → List Word → Answer → Type 0
IsAnswer command n is_last words answer =
    MatchBool (is_rid command) (answer ≡ rid_answer n is_last words)
    (Answers command n [] Free words answer)
