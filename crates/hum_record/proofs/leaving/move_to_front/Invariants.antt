use Rattle.std.proofs.Common.{drop}
use Rattle.hum_score.specs.Row.{chosen}
use Rattle.hum_score.specs.Spelling.{parts}
use Rattle.hum_record.proofs.Selected.{Moving}
use Rattle.hum_record.proofs.leaving.move_to_front.Given as goal

abbrev pub invariant-loop-j : goal.invariant-loop-j
invariant-loop-j l =
    Moving l.len l.count l.text l.ends l.selection (chosen l.selection (parts l.fn.text)) (drop l.j-index l.j-items)
