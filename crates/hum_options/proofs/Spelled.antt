-- Words are answered by the options that they spell.
use Rattle.std.proofs.Common.{ℕ, List, [], ◌++◌, Ok}
use Rattle.std.proofs.lemmas.List.{append-nil}
use Rattle.hum_words.specs.declared.commands.Command.{Command}
use Rattle.hum_options.specs.declared.reading.Turn.TheVariants.{Free}
use Rattle.hum_options.specs.Given.{Given}
use Rattle.hum_options.specs.Answers.{Word}
use Rattle.hum_options.specs.Spelling.{Spells, AreAllowed, IsSpelled, AreReadAsSpelled}
use Rattle.hum_options.proofs.Readings.{Ends, all_read, reached, told}

pub read_as_spelled : (command : Command) (n : ℕ) (words : List Word) → AreReadAsSpelled command n words
read_as_spelled command n words options = (
  λ h. let r = reached command n [] Free words (Ok options) h in rw r.whole (to_the_end r.spelled r.allowed r.ends),
  λ p. let h = told {n = n} p.1 [] p.2 (all_read p.3) in rw append-nil at h,
)
  where
    to_the_end : {front rest : List Word} {given : List Given} → Spells command front given
        → AreAllowed command [] given
        → Ends command n given rest (Ok options) → IsSpelled command (front ++ rest) options
    to_the_end {given = given} spelled allowed (all_read e) = (given, rw append-nil spelled, allowed, e)
