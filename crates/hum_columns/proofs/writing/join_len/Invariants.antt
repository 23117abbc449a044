use Rattle.std.proofs.Common.{◌≡◌, drop}
use Rattle.hum_columns.specs.Spread.{join_done}
use Rattle.hum_columns.proofs.writing.join_len.Given as goal

abbrev pub invariant-loop-i : goal.invariant-loop-i
invariant-loop-i l = join_done (drop l.i l.pieces) ≡ join_done l.pieces
