use Rattle.std.proofs.Common.{ℕ, ◌+◌, true, Option, None, Some, length, List}
use denote.Bor.{Bor}
use Rattle.hum_words.specs.Pieces.{items_of}
use Rattle.hum_words.specs.declared.cutting.Piece.{Piece}
use Rattle.hum_plan.specs.Answers.{Outline, Outcome, StagesAnswer}
use Rattle.hum_plan.specs.Lines.{groups}
use Rattle.hum_plan.specs.Tells.{outline_of}
use Rattle.hum_plan.proofs.Steps.{left}
use Rattle.hum_plan.proofs.draft.Draft.add_stages.Given as goal

-- how many pieces are still to come, and one more
abbrev pub pieces_left : Option (Bor (List Piece)) → ℕ
pieces_left None = 0
pieces_left (Some pieces) = length pieces.now + 1

abbrev pub invariant-loop-rest : goal.invariant-loop-rest
invariant-loop-rest l = (answer : Outcome Outline)
    → StagesAnswer l.line l.is_out l.is_first (outline_of l.self) (left l.rest) answer
    → StagesAnswer l.line l.is_out true (outline_of l.fn.self) (groups (items_of l.pieces)) answer

abbrev pub decreases-loop-rest : goal.decreases-loop-rest
decreases-loop-rest l = pieces_left l.rest
