use Rattle.std.proofs.Common.{◌≡◌, ◌++◌, drop, map}
use Rattle.hum_score.specs.Row.{tokens_of, chosen}
use Rattle.hum_columns.specs.Chosen.{each_piece}
use Rattle.hum_extract.specs.Extract.{pieces, softened}
use Rattle.hum_extract.proofs.cutting.kept_pieces.Given as goal

abbrev pub invariant-loop-j : goal.invariant-loop-j
invariant-loop-j l =
    l.kept.items ++ chosen (drop l.j l.marks) (each_piece l.after_join (map (softened l.lone) (drop l.j (tokens_of l.row))))
    ≡ pieces l.marks (map (softened l.lone) (tokens_of l.row))
