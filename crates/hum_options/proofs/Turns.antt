-- Answers to words, one word after another.
use Rattle.std.proofs.lemmas.Bool.Decides.{nat_tests}
use Rattle.std.proofs.Common.{◌≡◌, ℕ, List, ◌∷◌, Err, Some, arith}
use Rattle.std.proofs.Common.{suc, ◌<◌, length, drop, drop-cons, get_or}
use denote.Ref.{Bor}
use Rattle.hum_words.specs.declared.cutting.Piece.{Piece}
use Rattle.hum_words.specs.declared.cutting.Piece.TheVariants as piece
use Rattle.hum_words.specs.declared.commands.Command.{Command}
use Rattle.hum_options.specs.declared.options.CommandOption.{CommandOption}
use Rattle.hum_options.specs.declared.grammar.ValueError.{ValueError}
use Rattle.hum_options.specs.Values.{Value, IsSound}
use Rattle.hum_options.specs.Given.{Given}
use Rattle.hum_options.specs.declared.faults.OptionError.{OptionError}
use Rattle.hum_options.specs.declared.faults.OptionError.TheVariants as failed
use Rattle.hum_options.specs.declared.reading.Turn.{Turn}
use Rattle.hum_options.specs.declared.reading.Turn.TheVariants.{Awaits}
use Rattle.hum_options.specs.Answers.{Word, Answer, AtValue, Answers}
use Rattle.hum_options.specs.Seen.{GivesValue, GoesOn, Tells, value_fault, words_of}

pub sound : (m : ℕ) (Goes : Value → Type 0) (value : Value) (answer : Answer) → IsSound value → Goes value
    → AtValue m Goes (Some value) answer
sound = grind (arith, nat_tests)

-- a value that wasn't read
pub value_fails : (command : Command) (n k m : ℕ) (old : List Given) (option : CommandOption) (text : List ℕ)
    (words : List Word) (error : ValueError) (Behind : Turn → Answer → Type 0)
    → GivesValue option.kind text (Err error)
    → GoesOn (Answers command n old (Awaits k option) ((m, text) ∷ words)) Behind (Err (value_fault m error))
unfolding Answers
value_fails = grind (arith, nat_tests)

-- a fault that was found behind a prefix of the words
pub passed : (Lawful Before : Answer → Type 0) (Behind : Turn → Answer → Type 0) (error : OptionError)
    → GoesOn Lawful Behind (Err error) → ((answer : Answer) → Lawful answer → Before answer)
    → Tells Before (Err error)
passed = grind (arith, nat_tests)

-- the word at a place of some pieces, and what comes behind it
pub word_at : (pieces : List Piece) (i k : ℕ) (d : Piece) (word : Bor (List ℕ)) → i < length pieces
    → get_or pieces i d ≡ piece.Word k word
    → words_of (drop i pieces) ≡ (k, word.now) ∷ words_of (drop (suc i) pieces)
word_at = grind (arith, nat_tests, drop-cons)
