use Rattle.std.proofs.Common.{◌≡◌, drop}
use Rattle.std.specs.Prelude.{map}
use Rattle.hum_options.specs.Letters.{drops}
use Rattle.hum_options.specs.Answers.{text_of_word}
use Rattle.hum_options.specs.Seen.{words_of}
use Rattle.hum_options.proofs.letters.drops.Given as goal

abbrev pub invariant-loop-piece : goal.invariant-loop-piece
invariant-loop-piece l =
    drops l.letter (map text_of_word (words_of l.pieces))
    ≡ drops l.letter (map text_of_word (words_of (drop l.piece-index l.pieces)))
