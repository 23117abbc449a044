use Rattle.std.proofs.Common.{◌≡◌, true, drop}
use Rattle.hum_words.specs.Pieces.{items_of}
use Rattle.hum_plan.specs.Lines.{empty_stage}
use Rattle.hum_plan.proofs.lines.empty_stage.Given as goal

abbrev pub invariant-loop-piece : goal.invariant-loop-piece
invariant-loop-piece l = empty_stage 1 true (items_of l.pieces)
    ≡ empty_stage l.last l.lacks (items_of (drop l.piece-index l.pieces))
