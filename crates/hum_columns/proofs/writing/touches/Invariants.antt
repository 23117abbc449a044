use Rattle.std.proofs.Common.{◌≡◌, false, drop}
use Rattle.hum_columns.specs.Spread.{touches}
use Rattle.hum_columns.proofs.writing.touches.Given as goal

abbrev pub invariant-loop-piece : goal.invariant-loop-piece
invariant-loop-piece l = touches l.after_join (drop l.piece-index l.pieces) ≡ touches false l.pieces
