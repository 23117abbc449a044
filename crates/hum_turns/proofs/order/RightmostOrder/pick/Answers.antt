use Rattle.std.proofs.lemmas.Bool.Decides.{nat_tests}
use Rattle.std.proofs.Common.{arith}
use Rattle.hum_turns.proofs.Places.{last_at, last_below}
use Rattle.hum_turns.proofs.order.RightmostOrder.pick.Goals as goal

pub returns-then-ready-end-clause-picks : goal.returns-then-ready-end-clause-picks
returns-then-ready-end-clause-picks = grind (arith, nat_tests, last_at)

pub loop-end-preserved : goal.loop-end-preserved
loop-end-preserved = grind (arith, nat_tests, last_below)
