use Rattle.std.proofs.Common.{◌∙◌}
use Rattle.hum_path.proofs.Steady.{same_more}
use Rattle.hum_path.proofs.steering.same.Goals as goal

pub loop-j-preserved : goal.loop-j-preserved
loop-j-preserved c =
    rw c.in_ok-push.ensures.items (same_more c.loop-j.moves.items c.loop-j.j c.args.width c.loop-j-test.true ∙ c.loop-j.invariant)
