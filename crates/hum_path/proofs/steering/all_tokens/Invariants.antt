use Rattle.std.proofs.Common.{◌≡◌, ◌++◌}
use Rattle.hum_score.specs.Texts.{texts}
use Rattle.hum_score.specs.Row.{tokens_of}
use Rattle.hum_path.proofs.steering.all_tokens.Given as goal

abbrev pub invariant-loop-token : goal.invariant-loop-token
invariant-loop-token l = texts l.names.items ++ l.token-iterator ≡ tokens_of l.row
