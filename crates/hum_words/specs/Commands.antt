-- The commands, and their words in a plan.
use Rattle.std.specs.Prelude.{ℕ, List, [], ◌∷◌, Option}
use Rattle.std.specs.List.{find}
use Rattle.std.specs.Str.{bytes_eq}
use lib.Chars.{codes}
use Rattle.hum_words.specs.declared.commands.Command.{Command}
use Rattle.hum_words.specs.declared.commands.Command.TheVariants.{Read, Rid, Extract, Ditto, Timebase}
use Rattle.hum_words.specs.declared.commands.Command.TheVariants.{Context, Trans, Semits, Mint, Recip}
use Rattle.hum_words.specs.declared.commands.Command.TheVariants.{Yank, Cleave, Assemble}

abbrev pub commands : List Command
commands =
    Read ∷ Rid ∷ Extract ∷ Ditto ∷ Timebase ∷ Context ∷ Trans ∷ Semits ∷ Mint ∷ Recip ∷ Yank
    ∷ Cleave ∷ Assemble ∷ []

-- a command's word in a plan
abbrev pub word_of : Command → List ℕ
word_of Read = codes "read"
word_of Rid = codes "rid"
word_of Extract = codes "extract"
word_of Ditto = codes "ditto"
word_of Timebase = codes "timebase"
word_of Context = codes "context"
word_of Trans = codes "trans"
word_of Semits = codes "semits"
word_of Mint = codes "mint"
word_of Recip = codes "recip"
word_of Yank = codes "yank"
word_of Cleave = codes "cleave"
word_of Assemble = codes "assemble"

-- the command that a word is
unfoldable pub command_of : List ℕ → Option Command
command_of word = find (λ command. bytes_eq (word_of command) word) commands
