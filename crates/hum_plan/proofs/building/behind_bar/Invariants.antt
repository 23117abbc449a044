use Rattle.std.proofs.Common.{◌≡◌, drop}
use Rattle.hum_words.specs.Pieces.{items_of}
use Rattle.hum_plan.specs.Lines.{behind_bar}
use Rattle.hum_plan.proofs.building.behind_bar.Given as goal

abbrev pub invariant-loop-index : goal.invariant-loop-index
invariant-loop-index l =
    behind_bar (items_of l.pieces) ≡ behind_bar (items_of (drop l.index l.pieces))
