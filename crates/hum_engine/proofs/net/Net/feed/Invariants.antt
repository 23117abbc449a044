use Rattle.std.proofs.Common.{◌+◌, ◌-◌, ◌*◌}
use Rattle.hum_turns.specs.declared.order.Side.TheVariants as side
use Rattle.hum_engine.specs.Looks.{Along, leaning}
use Rattle.hum_engine.proofs.Telling.{Ran}
use Rattle.hum_engine.proofs.net.Net.feed.Given as goal

abbrev pub invariant-loop-k : goal.invariant-loop-k
invariant-loop-k g l = Ran g.S.Stage g.R.Source g.W.Sink (leaning side.Left) tt tt (Along l.fn.from l.fn.taker) (Along l.k l.fn.taker)
    l.fn.self l.self

abbrev pub decreases-loop-k : goal.decreases-loop-k
decreases-loop-k g l = (18446744073709551616 - l.self.turns) * 257 + (256 - l.k)
