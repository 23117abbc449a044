use Rattle.std.proofs.Common.{◌≡◌, drop}
use Rattle.hum_options.specs.Answers.{rid_fault}
use Rattle.hum_options.specs.Seen.{words_of}
use Rattle.hum_options.proofs.letters.first_fault.Given as goal

abbrev pub invariant-loop-piece : goal.invariant-loop-piece
invariant-loop-piece l =
    rid_fault l.is_last (words_of l.pieces) ≡ rid_fault l.is_last (words_of (drop l.piece-index l.pieces))
