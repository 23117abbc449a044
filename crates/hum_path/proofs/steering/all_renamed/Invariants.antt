use Rattle.std.proofs.Common.{◌≡◌, ◌++◌, drop, map}
use Rattle.hum_score.specs.Texts.{texts}
use Rattle.hum_score.specs.Row.{tokens_of}
use Rattle.hum_score.specs.Spines.{renamed}
use Rattle.hum_path.proofs.steering.all_renamed.Given as goal

abbrev pub invariant-loop-from : goal.invariant-loop-from
invariant-loop-from l =
    texts l.after.items ++ map (renamed (texts l.names) (tokens_of l.row)) (drop l.from-index l.moves) ≡ map (renamed (texts l.names) (tokens_of l.row)) l.moves
