use Rattle.std.proofs.Common.{◌+◌, ◌-◌, ◌*◌}
use Rattle.hum_turns.specs.declared.order.Side.TheVariants as side
use Rattle.hum_engine.specs.Looks.{FromRight, Unseen, leaning}
use Rattle.hum_engine.proofs.Telling.{Ran}
use Rattle.hum_engine.proofs.net.Net.run_from_right.Given as goal

abbrev pub invariant-loop-next : goal.invariant-loop-next
invariant-loop-next g l = Ran g.S.Stage g.R.Source g.W.Sink (leaning side.Right) tt tt Unseen (FromRight l.k) l.fn.self l.self

abbrev pub decreases-loop-next : goal.decreases-loop-next
decreases-loop-next g l = (18446744073709551616 - l.self.turns) * 257 + (256 - (256 - l.k))
