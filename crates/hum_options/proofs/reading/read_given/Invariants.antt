use Rattle.std.proofs.Common.{drop, []}
use Rattle.hum_options.specs.Answers.{Answer, Answers}
use Rattle.hum_options.specs.declared.reading.Turn.TheVariants.{Free}
use Rattle.hum_options.specs.Seen.{words_of}
use Rattle.hum_options.proofs.reading.read_given.Given as goal

abbrev pub invariant-loop-piece : goal.invariant-loop-piece
invariant-loop-piece l = (answer : Answer)
    → Answers l.command l.number l.given l.turn (words_of (drop l.piece-index l.pieces)) answer
    → Answers l.command l.number [] Free (words_of l.pieces) answer
