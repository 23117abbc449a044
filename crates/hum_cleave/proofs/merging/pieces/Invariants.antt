use Rattle.std.proofs.Common.{◌≡◌, ◌++◌, false, drop}
use Rattle.hum_score.specs.Row.{tokens_of}
use Rattle.hum_columns.specs.Spread.{piece}
use Rattle.hum_cleave.specs.Columns.{together}
use Rattle.hum_columns.specs.Chosen.{each_piece}
use Rattle.hum_cleave.proofs.Placewise.{left_of}
use Rattle.hum_cleave.proofs.merging.pieces.Given as goal

abbrev pub invariant-loop-j : goal.invariant-loop-j
invariant-loop-j l =
    l.kept.items ++ left_of l.is_done (piece false l.one) (drop l.j l.marks) (each_piece l.after_join (drop l.j (tokens_of l.row)))
    ≡ together (piece false l.one) l.marks (each_piece false (tokens_of l.row))
