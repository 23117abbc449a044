use Rattle.std.proofs.Common.{◌≡◌, ◌≤◌, ◌+◌, drop}
use Rattle.hum_columns.specs.Spread.{joins_in}
use Rattle.hum_columns.proofs.writing.joins_in.Given as goal

abbrev pub invariant-loop-piece : goal.invariant-loop-piece
invariant-loop-piece l = record {
  count : l.count + joins_in (drop l.piece-index l.pieces) ≡ joins_in l.pieces;
  at_most : l.count ≤ l.piece-index;
}
