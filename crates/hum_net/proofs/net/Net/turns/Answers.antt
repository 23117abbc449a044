use Rattle.std.proofs.Common.{subst}
use Rattle.hum_engine.specs.Nets.{HadFewEach}
use Rattle.hum_net.proofs.net.Net.turns.Goals as goal

pub returns-clause-most : goal.returns-clause-most
returns-clause-most g c start s now here = c.turns.ensures.most start s now (rw (← c.self.view_is) at here)

pub returns-clause-each : goal.returns-clause-each
returns-clause-each g c = subst (HadFewEach g.S.Stage g.W.Sink) c.self.view_is c.turns.ensures.each
