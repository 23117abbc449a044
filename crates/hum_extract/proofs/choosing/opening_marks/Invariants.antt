use Rattle.std.proofs.Common.{◌≡◌, ◌++◌, drop}
use Rattle.hum_score.specs.Row.{tokens_of, width_of}
use Rattle.hum_extract.specs.Choice.{each_chosen, opening_flags}
use Rattle.hum_choices.specs.Extract.{choice_of}
use Rattle.hum_extract.proofs.choosing.opening_marks.Given as goal

abbrev pub invariant-loop-j : goal.invariant-loop-j
invariant-loop-j l =
    l.marks.items ++ each_chosen (choice_of l.choice) (width_of l.row) l.j (drop l.j (tokens_of l.row)) ≡ opening_flags (choice_of l.choice) (tokens_of l.row)
