-- Words that give options are answered otherwise by N12 alone.
use Rattle.std.proofs.lemmas.Bool.Decides.{nat_tests}
use Rattle.std.proofs.Common.{arith}
use Rattle.std.proofs.Common.{◌≡◌, ℕ, Bool, List, ◌∷◌, Option, None, Some, Ok, Err}
use Rattle.hum_score.proofs.Cases.{by_bool}
use Rattle.hum_words.specs.declared.commands.Command.{Command}
use Rattle.hum_options.specs.declared.options.CommandOption.{CommandOption}
use Rattle.hum_options.specs.declared.faults.PatternRefusal.{PatternRefusal}
use Rattle.hum_options.specs.declared.faults.OptionRule.TheVariants.{N12}
use Rattle.hum_options.specs.declared.reading.Turn.{Turn}
use Rattle.hum_options.specs.declared.reading.Turn.TheVariants.{Free, Awaits}
use Rattle.hum_options.specs.Values.{Value, Nothing, value_of}
use Rattle.hum_choices.specs.Options.{Options}
use Rattle.hum_options.specs.Given.{Given}
use Rattle.hum_options.specs.Answers.{Word, Answer, Answers, AtOption, AtValue, IsAnswer, is_alone}
use Rattle.hum_options.specs.Answers.{next_option, with_value}

-- what else may be answered to words that give options
abbrev pub Fits : Options → Answer → Type 0
Fits options (Ok other) = options ≡ other
Fits options (Err fault) = (refusal : PatternRefusal) × (fault.rule ≡ N12 refusal)

fits_same : (options : Options) (fixed answer : Answer) → Ok options ≡ fixed → answer ≡ fixed → Fits options answer
fits_same = grind (arith, nat_tests)

option_fits : (k : ℕ) (One Two : List Given → Turn
    → Type 0) (given : List Given) (found : Option CommandOption) (options : Options)
    (answer : Answer) → ((next : List Given) (turn : Turn) → One next turn → Two next turn → Fits options answer)
    → AtOption k given One found (Ok options) → AtOption k given Two found answer → Fits options answer
option_fits k One Two given None options answer fits one two = absurd (cc)
option_fits k One Two given (Some option) options answer fits one two = by_bool (is_alone option.kind)
    (λ w. fits (with_value given option Nothing) Free (rw w at one) (rw w at two))
    (λ w. fits given (Awaits k option) (rw w at one) (rw w at two))

value_fits : (m : ℕ) (One Two : Value → Type 0) (found : Option Value) (options : Options) (answer : Answer)
    → ((value : Value) → One value → Two value → Fits options answer)
    → AtValue m One found (Ok options) → AtValue m Two found answer → Fits options answer
value_fits = grind (arith, nat_tests)

words_fit : (kind : Command) (n : ℕ) (given : List Given) (turn : Turn) (words : List Word) (options : Options)
    (answer : Answer)
    → Answers kind n given turn words (Ok options) → Answers kind n given turn words answer → Fits options answer
unfolding Answers
words_fit kind n given Free ((k, word) ∷ words) options answer one two =
    option_fits k (λ next turn. Answers kind n next turn words (Ok options))
    (λ next turn. Answers kind n next turn words answer) given (next_option kind given word) options answer
    (λ next turn. words_fit kind n next turn words options answer) one two
words_fit kind n given (Awaits k option) ((m, text) ∷ words) options answer one two =
    value_fits m (λ value. Answers kind n (with_value given option value) Free words (Ok options))
    (λ value. Answers kind n (with_value given option value) Free words answer)
    (value_of option.kind text) options answer
    (λ value. words_fit kind n (with_value given option value) Free words options answer) one two
words_fit kind n given turn words options answer h k = grind (arith, nat_tests)

pub answer_fits : (kind : Command) (n : ℕ) (is_last : Bool) (words : List Word) (options : Options) (answer : Answer)
    → IsAnswer kind n is_last words (Ok options) → IsAnswer kind n is_last words answer → Fits options answer
answer_fits = grind (arith, nat_tests, fits_same, words_fit)
