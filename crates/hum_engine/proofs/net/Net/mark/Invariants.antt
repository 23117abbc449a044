use Rattle.hum_engine.proofs.Running.{Marked}
use Rattle.hum_engine.proofs.net.Net.mark.Given as goal

abbrev pub invariant-loop-k : goal.invariant-loop-k
invariant-loop-k g l = Marked g.S.Stage g.W.Sink l.k l.fn.self l.self
