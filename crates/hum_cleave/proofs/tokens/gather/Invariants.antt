use Rattle.std.proofs.Common.{◌≡◌, take}
use Rattle.hum_score.specs.Row.{tokens_of, chosen}
use Rattle.hum_cleave.specs.Tokens.{data_of}
use Rattle.hum_cleave.specs.Barlines.{Knows}
use Rattle.hum_cleave.proofs.Gathering.{so_far, taken_from}
use Rattle.hum_cleave.proofs.tokens.gather.Given as goal

abbrev pub invariant-loop-j : goal.invariant-loop-j
invariant-loop-j l =
    (so_far l.separator l.text (taken_from l.marks (tokens_of l.row) l.j)
    ≡ data_of l.separator (chosen l.marks (tokens_of l.row)))
    × Knows l.barlines (chosen (take l.j l.marks) (take l.j (tokens_of l.row)))
