-- What the words of a command line ask for.
use Rattle.std.specs.Prelude.{◌≡◌, ℕ, ◌≤◌, List, [], Option, None, Some, codes, option_map, true}
use Rattle.std.specs.Str.Parse.{IsNumeral, digits_value, without_leading_plus}
use Rattle.clap.specs.Words.{App, Rule, Text, fault_of, first_of, matches_of, new_app, new_rule, with_rule}
use Rattle.clap.specs.Simple.{on_top}
use Rattle.clap.specs.declared.builder.ArgAction.TheVariants.{Set}
use Rattle.hum_turns.specs.declared.order.Side.{Side}
use Rattle.hum_turns.specs.declared.order.Side.TheVariants.{Left, Right}
use Rattle.hum_program.specs.declared.line.Choice.{Choice}

-- an option of one value, `--NAME VALUE` or `--NAME=VALUE`, and a word of its own
abbrev pub option : Text → Rule
option name = record (new_rule name) { long = Some name; action = Some Set }

abbrev pub word : Text → Rule
word name = record (new_rule name) { action = Some Set }

-- The line of the program: two options and a word, each at most once, in any order, and no `--help`.
abbrev pub line : App
line = with_rule (with_rule (with_rule
    (on_top (λ s. record s { disable_help_flag = true }) (new_app (codes "humpipe")))
    (option (codes "link"))) (option (codes "order"))) (word (codes "PIPELINE"))

-- such words, the program's name first
abbrev pub IsLine : List Text → Type 0
IsLine words = fault_of line words ≡ []

-- what stands in them by this name
abbrev pub said : List Text → Text → Option Text
said words name = first_of name (matches_of line words)

-- the number that a numeral is; a plus may stand before it
pub record IsNumber (text : List ℕ) (n : ℕ) : Type 0 where
  pub digits : IsNumeral 10 (without_leading_plus text)
  pub value : digits_value 10 (without_leading_plus text) ≡ n

-- How many records a link holds: 1 to 4,096 as `--link` says, and 16 where it isn't said.
abbrev pub IsLink : Option Text → ℕ → Type 0
IsLink None n = n ≡ 16
IsLink (Some text) n = IsNumber text n × (1 ≤ n) × (n ≤ 4096)

-- The side that `--order` names, and the left where it isn't said.
abbrev pub IsOrder : Option Text → Side → Type 0
IsOrder None side = side ≡ Left
IsOrder (Some text) Left = text ≡ codes "left"
IsOrder (Some text) Right = text ≡ codes "right"

-- What is said by name asks for links of this size, for this order, and for the plan of this file or for a bundle.
pub record Says (said : Text → Option Text) (choice : Choice) : Type 0 where
  pub link : IsLink (said (codes "link")) choice.link
  pub order : IsOrder (said (codes "order")) choice.order
  pub file : option_map (λ file. file.now) choice.file ≡ said (codes "PIPELINE")

-- Such words ask for it.
pub record Asks (words : List Text) (choice : Choice) : Type 0 where
  pub is_line : IsLine words
  pub says : Says (said words) choice

-- They ask for nothing.
abbrev pub AskNothing : List Text → Type 0
AskNothing words = (choice : Choice) → ¬ Asks words choice
