use Rattle.std.proofs.Common.{◌≡◌, ◌≤◌, ◌+◌, ◌*◌, map, length, false}
use Rattle.hum_score.specs.Row.{tokens_of}
use Rattle.hum_score.specs.Sign.{sign_of}
use Rattle.hum_assemble.specs.Sizes.{width_under}
use Rattle.hum_assemble.proofs.placing.width_under.Given as goal

abbrev pub invariant-loop-token : goal.invariant-loop-token
invariant-loop-token l = record {
  at : l.count + width_under l.after_join (map sign_of l.token-iterator)
      ≡ width_under false (map sign_of (tokens_of l.row));
  few : l.count + 2 * length l.token-iterator ≤ 2 * length (tokens_of l.row);
}
