use Rattle.std.proofs.Common.{◌+◌, ◌-◌, ◌*◌}
use Rattle.hum_engine.specs.Looks.{Unseen}
use Rattle.hum_engine.proofs.Telling.{Ran}
use Rattle.hum_engine.proofs.net.Net.run_by.Given as goal

abbrev pub invariant-loop : goal.invariant-loop
invariant-loop g l = Ran g.S.Stage g.R.Source g.W.Sink (record { pick = g.O.Order.picks; next = g.O.Order.after })
    l.fn.order l.order Unseen Unseen l.fn.self l.self

abbrev pub decreases-loop : goal.decreases-loop
decreases-loop g l = (18446744073709551616 - l.self.turns) * 257 + 0
