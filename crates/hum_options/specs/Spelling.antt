-- Words that spell options.
use Rattle.std.specs.Prelude.{◌≡◌, ◌↔◌, ℕ, true, false, List, [], ◌∷◌, ◌++◌, Some, Ok}
use Rattle.hum_words.specs.declared.commands.Command.{Command}
use Rattle.hum_options.specs.declared.options.ValueKind.{ValueKind}
use Rattle.hum_options.specs.declared.options.CommandOption.{CommandOption}
use Rattle.hum_options.specs.declared.reading.Turn.TheVariants.{Free}
use Rattle.hum_options.specs.Options.{option_of, meant}
use Rattle.hum_options.specs.Values.{Value, Nothing, value_of, IsSound}
use Rattle.hum_choices.specs.Options.{Options}
use Rattle.hum_options.specs.Given.{Given}
use Rattle.hum_options.specs.Answers.{Word, Answers, is_alone, is_barred}

-- the value of a kind that a text is
pub record IsValue (kind : ValueKind) (text : List ℕ) (value : Value) : Type 0 where
  pub grammar : value_of kind text ≡ Some value
  pub sound : IsSound value

-- an option with its value
abbrev pub given_as : CommandOption → Value → Given
given_as option value = record { letter = option.letter; value = value }

-- Words that are options of a command, one after another: an option that stands alone, or an option
-- and, as the next word, its value.
pub data Spells (command : Command) : List Word → List Given → Type 0 where
  none : Spells command [] []
  alone : {k : ℕ} {word : List ℕ} {words : List Word} {option : CommandOption} {more : List Given}
      → option_of command word ≡ Some option → is_alone option.kind ≡ true → Spells command words more
      → Spells command ((k, word) ∷ words) (given_as option Nothing ∷ more)
  valued : {k m : ℕ} {word text : List ℕ} {words : List Word} {option : CommandOption} {value : Value}
      {more : List Given} → option_of command word ≡ Some option → is_alone option.kind ≡ false
      → IsValue option.kind text value → Spells command words more
      → Spells command ((k, word) ∷ ((m, text) ∷ words)) (given_as option value ∷ more)

-- None of the options stands behind one of its letter, or one that excludes it.
abbrev pub AreAllowed : Command → List Given → List Given → Type 0
AreAllowed command before [] = Unit {0}
AreAllowed command before (given ∷ more) =
    (is_barred command before given.letter ≡ false) × AreAllowed command (before ++ given ∷ []) more

-- Words spell a command's options: they are options that may stand together, and mean these.
abbrev pub IsSpelled : Command → List Word → Options → Type 0
IsSpelled command words options = (given : List Given) × Spells command words given
    × AreAllowed command [] given × (meant command given ≡ Some options)

-- words are answered by the options that they spell, and by no others
abbrev pub AreReadAsSpelled : Command → ℕ → List Word → Type 0
AreReadAsSpelled command n words = (options : Options)
    → Answers command n [] Free words (Ok options) ↔ IsSpelled command words options
