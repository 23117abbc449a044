use Rattle.std.proofs.Common.{◌≡◌, drop, []}
use Rattle.hum_options.specs.Seen.{words_of}
use Rattle.hum_plan.specs.Answers.{joined, names_joined}
use Rattle.hum_plan.proofs.building.join_names.Given as goal

abbrev pub invariant-loop-piece : goal.invariant-loop-piece
invariant-loop-piece l =
    names_joined l.line l.number (joined [] l.fn.branches) (words_of l.pieces)
    ≡ names_joined l.line l.number (joined l.sources.items l.branches) (words_of (drop l.piece-index l.pieces))
