-- The first rule that the words behind a command break, by these words alone.
use Rattle.std.specs.Prelude.{◌≡◌, ◌↔◌, ◌⊎◌, ℕ, Bool, true, false, List, [], ◌∷◌, ◌++◌, None, Some, Err, MatchBool}
use Rattle.std.specs.List.{AllByRecursion}
use lib.Chars.{codes}
use Rattle.hum_words.specs.declared.commands.Command.{Command}
use Rattle.hum_options.specs.declared.options.CommandOption.{CommandOption}
use Rattle.hum_options.specs.declared.faults.PatternRefusal.{PatternRefusal}
use Rattle.hum_options.specs.declared.faults.OptionRule.{OptionRule}
use Rattle.hum_options.specs.declared.faults.OptionRule.TheVariants.{N8, N9, N10, N11, N12}
use Rattle.hum_options.specs.declared.faults.OptionFault.{OptionFault}
use Rattle.hum_options.specs.Letters.{is_letter_word, has_letter}
use Rattle.hum_options.specs.Given.{letter, Given}
use Rattle.hum_options.specs.Options.{option_of, meant}
use Rattle.hum_options.specs.Values.{Pattern, value_of, IsRefused}
use Rattle.hum_options.specs.Answers.{Word, IsAnswer, is_rid, is_alone, is_barred}
use Rattle.hum_options.specs.Spelling.{Spells, AreAllowed}

-- a rule that is broken at a word
abbrev pub at : ℕ → OptionRule → OptionFault
at word rule = record { word = word; rule = rule }

-- a word that is an option of the command, and may stand behind others
pub record MayCome (command : Command) (given : List Given) (word : List ℕ)
    (option : CommandOption) : Type 0 where
  pub known : option_of command word ≡ Some option
  pub free : is_barred command given option.letter ≡ false

-- one that is none, that comes twice, or that one of the others excludes
abbrev pub MayNotCome : Command → List Given → List ℕ → Type 0
MayNotCome command given word =
    (option_of command word ≡ None)
    ⊎ ((option : CommandOption) × (option_of command word ≡ Some option)
    × (is_barred command given option.letter ≡ true))

-- What is broken by words that stand behind these options; the command is word n.
pub data Breaks (command : Command) (n : ℕ) (given : List Given) : List Word → OptionFault → Type 0 where
  stranger : {k : ℕ} {word : List ℕ} {words : List Word} → MayNotCome command given word
      → Breaks command n given ((k, word) ∷ words) (at k N8)
  valueless : {k : ℕ} {word : List ℕ} {option : CommandOption} → MayCome command given word option
      → is_alone option.kind ≡ false → Breaks command n given ((k, word) ∷ []) (at k N9)
  malformed : {k m : ℕ} {word text : List ℕ} {words : List Word} {option : CommandOption}
      → MayCome command given word option → is_alone option.kind ≡ false
      → value_of option.kind text ≡ None
      → Breaks command n given ((k, word) ∷ ((m, text) ∷ words)) (at m N10)
  refused : {k m : ℕ} {word text pattern : List ℕ} {words : List Word} {option : CommandOption}
      {refusal : PatternRefusal} → MayCome command given word option
      → is_alone option.kind ≡ false → value_of option.kind text ≡ Some (Pattern pattern)
      → IsRefused refusal pattern
      → Breaks command n given ((k, word) ∷ ((m, text) ∷ words)) (at m (N12 refusal))
  lacking : meant command given ≡ None → Breaks command n given [] (at n N9)

-- The words in front spell options that may stand together, and the rule is broken behind them.
pub record IsFirstFault (command : Command) (n : ℕ) (words : List Word) (fault : OptionFault)
    : Type 0 where
  pub front : List Word
  pub rest : List Word
  pub given : List Given
  pub whole : words ≡ front ++ rest
  pub spelled : Spells command front given
  pub allowed : AreAllowed command [] given
  pub broken : Breaks command n given rest fault

-- a word of rid that breaks a rule
pub data BreaksRid (is_last : Bool) : Word → OptionFault → Type 0 where
  no_letters : {k : ℕ} {word : List ℕ} → is_letter_word word ≡ false
      → BreaksRid is_last (k, word) (at k N8)
  before_another : {k : ℕ} {word : List ℕ} → is_letter_word word ≡ true → is_last ≡ false
      → has_letter (letter (codes "I")) word ≡ true → BreaksRid is_last (k, word) (at k N11)

abbrev pub BreaksNone : Bool → Word → Type 0
BreaksNone is_last word = (fault : OptionFault) → ¬ BreaksRid is_last word fault

-- the first word of rid that breaks a rule
pub record IsFirstWord (is_last : Bool) (words : List Word) (fault : OptionFault) : Type 0 where
  pub front : List Word
  pub word : Word
  pub rest : List Word
  pub whole : words ≡ front ++ word ∷ rest
  pub lawful : AllByRecursion (BreaksNone is_last) front
  pub broken : BreaksRid is_last word fault

-- rid has no word, or one that breaks a rule
abbrev pub IsFirstOfRid : ℕ → Bool → List Word → OptionFault → Type 0
IsFirstOfRid n is_last words fault =
    ((words ≡ []) × (fault ≡ at n N9)) ⊎ IsFirstWord is_last words fault

-- the first rule that the words behind a command break, which is word n
abbrev pub BreaksFirst : Command → ℕ → Bool → List Word → OptionFault → Type 0
BreaksFirst command n is_last words fault =
    MatchBool (is_rid command) (IsFirstOfRid n is_last words fault)
    (IsFirstFault command n words fault)

-- Words are refused for the first rule that they break, and for no other.
abbrev pub AreRefusedInOrder : Command → ℕ → Bool → List Word → Type 0
AreRefusedInOrder command n is_last words = (fault : OptionFault)
    → IsAnswer command n is_last words (Err fault) ↔ BreaksFirst command n is_last words fault
