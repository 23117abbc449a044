use Rattle.std.proofs.Common.{◌≡◌}
use Rattle.std.specs.List.{find}
use Rattle.hum_score.specs.Row.{tokens_of}
use Rattle.hum_yank.specs.Passages.{is_label}
use Rattle.hum_yank.proofs.marking.first_label.Given as goal

abbrev pub invariant-loop-token : goal.invariant-loop-token
invariant-loop-token l = find is_label l.token-iterator ≡ find is_label (tokens_of l.row)
